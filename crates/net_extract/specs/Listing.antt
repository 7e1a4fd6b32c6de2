-- For which entries there are lists, and where what is in them is found.
use Rattle.std.specs.Prelude.{◌≡◌, ℕ, ℤ, pos, negsuc, Bool, IsTrue, Contains, List, [], ◌∷◌, length}
use Rattle.lam_geom.specs.declared.boxes.{MaskBox.MaskBox, MaskLayer.{MaskLayer, TheVariants.NC}}
use Rattle.box_tree.specs.{declared.entries.Entry.Entry, Queries.Holds, Tree.IsTreeOf}
use Rattle.box_pieces.specs.declared.placing.Placed.{Placed}
use Rattle.crossings.specs.Entries.{AreBoxesOn}
use Rattle.net_extract.specs.declared.{lists.Kind.{Kind, TheVariants.{Touching, Over}}, listing.Sides.Sides, over.Vicinity.Vicinity}
use Rattle.net_extract.specs.{Entries.ArePieceEntries, Grounds.{IsGround, placed_on}, Lists.{IsIn, tags_of}}
use Rattle.net_extract.specs.Nearby.{AreLayerTrees, IsInSome, conducting, query_of}

-- how far what is listed may lie from its owner
abbrev pub reach_in : Kind → ℤ
reach_in Touching = pos 0
reach_in Over = negsuc 0

-- what may be in the list of an entry lies no farther from it, and is of another box
abbrev pub near_in : Kind → Entry → Vicinity
near_in kind own = record { area = own.area; reach = reach_in kind; owner = own.owner }

-- the number whose list is that of an entry: a piece, or the box of a cut
abbrev pub number_of : Kind → Entry → ℕ
number_of Touching own = own.tag
number_of Over own = own.owner

-- how many numbers there are
abbrev pub count_of : Kind → List MaskBox → List Placed → ℕ
count_of Touching boxes pieces = length pieces
count_of Over boxes pieces = length boxes

-- The owners are the pieces on a layer, beside pieces on that layer, or the cuts, beside pieces on all layers that
-- conduct.
abbrev pub AreOwners : Kind → List MaskBox → List Placed → List MaskLayer → List Entry → Type 0
AreOwners Touching boxes pieces layers own =
    (layer : MaskLayer) × (layers ≡ layer ∷ []) × ArePieceEntries boxes pieces layer own
AreOwners Over boxes pieces layers own = (layers ≡ conducting) × AreBoxesOn boxes NC own

pub record AreSides (sides : Sides) : Type 0 where
  pub ground : IsGround sides.ground
  pub tree : IsTreeOf sides.own.entries.now sides.own.groups.now
  pub layers : List MaskLayer
  pub owners : AreOwners sides.kind sides.ground.boxes.now (placed_on sides.ground) layers sides.own.entries.now
  pub facing : AreLayerTrees sides.ground.boxes.now (placed_on sides.ground) layers sides.facing.now

-- what belongs into the list of a number
abbrev pub IsInOf : Sides → ℕ → ℕ → Type 0
IsInOf sides = IsIn sides.kind sides.ground.boxes.now (placed_on sides.ground)

abbrev pub count_in : Sides → ℕ
count_in sides = count_of sides.kind sides.ground.boxes.now (placed_on sides.ground)

-- what was found near a group to which an entry belongs: where it is all, it has all that is near the entry
pub record AreNearGroup (sides : Sides) (own : Entry) (few : Bool) (nearby : List Entry) : Type 0 where
  pub sound : (b : Entry) → Contains nearby b → IsInSome sides.facing.now b
  pub complete : IsTrue few → (b : Entry) → IsInSome sides.facing.now b
      → Holds (query_of (near_in sides.kind own)) b → Contains (tags_of nearby) b.tag
