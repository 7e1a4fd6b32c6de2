-- What lies near an area, and is found in trees of pieces.
use Rattle.std.specs.Prelude.{◌≢◌, ℕ, ◌⊎◌, Bool, IsTrue, IsFalse, Contains, List, [], ◌∷◌}
use Rattle.std.specs.{List.AllZip, Borrow.Bor}
use Rattle.box_tree.specs.declared.{query.{Query.Query, Question.TheVariants.NearOfOther}, entries.Entry.Entry}
use Rattle.box_tree.specs.{declared.tree.OwnedParts.OwnedParts, Queries.Holds, UnvisitedTrees.AreTreeParts}
use Rattle.lam_geom.specs.declared.boxes.{MaskBox.MaskBox, MaskLayer.{MaskLayer, TheVariants.{ND, NP, NM}}}
use Rattle.net_extract.specs.{declared.over.Vicinity.Vicinity, Entries.ArePieceEntries, Lists.tags_of}
use Rattle.box_pieces.specs.declared.placing.Placed.{Placed}

-- ---- what is found near an area

-- what lies no farther than so much from an area, and is of another box, as a query
abbrev pub query_of : Vicinity → Query
query_of near = record { area = near.area; question = NearOfOther near.reach near.owner }

-- some entries are of two boxes at least
abbrev pub AreOfTwo : List Entry → Type 0
AreOfTwo entries = (x : Entry) × (y : Entry) × Contains entries x × Contains entries y × (y.owner ≢ x.owner)

-- what is new in a list are entries out of some that hold a query
abbrev pub AreFrom : (Entry → Type 0) → Query → List Entry → List Entry → Type 0
AreFrom From query old new = (b : Entry) → Contains new b → Contains old b ⊎ (From b × Holds query b)

-- To a list have been added entries that hold a query, out of some: those with all their tags, or else so many that
-- the list has entries of two boxes.
pub record AreFound (From : Entry → Type 0) (query : Query) (all : Bool) (old new : List Entry) : Type 0 where
  pub sound : AreFrom From query old new
  pub kept : (y : ℕ) → Contains (tags_of old) y → Contains (tags_of new) y
  pub complete : IsTrue all → (b : Entry) → From b → Holds query b → Contains (tags_of new) b.tag
  pub two : IsFalse all → AreOfTwo new

-- an entry of one of some trees
pub record IsInSome (trees : List (Bor OwnedParts)) (b : Entry) : Type 0 where
  pub tree : Bor OwnedParts
  pub among : Contains trees tree
  pub «in» : Contains tree.now.entries.items b

-- ---- trees of pieces

-- a tree of the pieces on a layer
pub record IsLayerTree (boxes : List MaskBox) (pieces : List Placed) (layer : MaskLayer) (parts : OwnedParts) : Type
    0 where
  pub stands : AreTreeParts parts
  pub shows : ArePieceEntries boxes pieces layer parts.entries.items

-- a tree of the pieces on some layer
abbrev pub IsPieceParts : List MaskBox → List Placed → OwnedParts → Type 0
IsPieceParts boxes pieces parts = (layer : MaskLayer) × IsLayerTree boxes pieces layer parts

-- trees of the pieces on some layers, one for each
abbrev pub AreLayerTrees : List MaskBox → List Placed → List MaskLayer → List (Bor OwnedParts) → Type 0
AreLayerTrees boxes pieces layers trees = AllZip (λ layer tree. IsLayerTree boxes pieces layer tree.now) layers trees

-- the layers that conduct
abbrev pub conducting : List MaskLayer
conducting = ND ∷ NP ∷ NM ∷ []
