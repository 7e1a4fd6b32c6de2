-- The trees of pieces, the lists of cuts, and the cuts over each piece.
use Rattle.std.specs.Prelude.{◌≡◌, ◌≢◌, ℕ, ◌+◌, ◌-◌, ◌<◌, ◌≤◌, Bool, false, IsTrue, List, length, slice_index}
use Rattle.std.specs.Prelude.{slice_index_or}
use Rattle.box_tree.specs.declared.{entries.Entry.Entry, unvisited_trees.UnvisitedTree.UnvisitedTree}
use Rattle.box_tree.specs.{declared.tree.OwnedParts.OwnedParts, UnvisitedTrees.AreTagsWithin}
use Rattle.box_tree.specs.UnvisitedTrees.{IsNewUnvisitedTree, AreTreeParts}
use Rattle.lam_geom.specs.declared.boxes.{MaskBox.MaskBox, MaskLayer.{MaskLayer, TheVariants.{ND, NP, NM}}}
use Rattle.net_extract.specs.declared.{cut_lists.{Chains.Chains, CutLists.CutLists}, lists.Lists.Lists}
use Rattle.net_extract.specs.{declared.{lists.Kind.TheVariants.Over, over.PieceTrees.PieceTrees}, Linking.IsJoining}
use Rattle.net_extract.specs.{Entries.{AreEntries, ArePieceEntries, cut_entry}, Lists.{AreLists, HasList, IsIn, IsListed}}
use Rattle.box_pieces.specs.declared.placing.Placed.{Placed}

-- ---- trees of pieces

-- a tree of which the tags are below a number, that of the pieces
pub record ArePartsWithin (count : ℕ) (parts : OwnedParts) : Type 0 where
  pub stands : AreTreeParts parts
  pub tags : AreTagsWithin count parts.entries.items

-- a tree of entries of a kind, of which nothing has been reached
pub record IsNewTreeOf (Are : List Entry → Type 0) (unvisited_tree : UnvisitedTree) : Type 0 where
  pub shows : Are unvisited_tree.parts.entries.items
  pub new : IsNewUnvisitedTree unvisited_tree.parts.entries.items unvisited_tree

-- that of the pieces on a layer
abbrev pub IsNewPieceTree : List MaskBox → List Placed → MaskLayer → UnvisitedTree → Type 0
IsNewPieceTree boxes pieces layer = IsNewTreeOf (ArePieceEntries boxes pieces layer)

pub record ArePieceTrees (boxes : List MaskBox) (pieces : List Placed) (unvisited_trees : PieceTrees) : Type 0 where
  pub diffusion : IsNewPieceTree boxes pieces ND unvisited_trees.diffusion
  pub poly : IsNewPieceTree boxes pieces NP unvisited_trees.poly
  pub metal : IsNewPieceTree boxes pieces NM unvisited_trees.metal

-- a tree of the pieces on a layer, whatever has been reached
pub record IsPieceTree (boxes : List MaskBox) (pieces : List Placed) (layer : MaskLayer) (tree : UnvisitedTree) : Type
    0 where
  pub stands : AreTreeParts tree.parts
  pub shows : ArePieceEntries boxes pieces layer tree.parts.entries.items

-- those of the three layers
pub record ShowPieces (boxes : List MaskBox) (pieces : List Placed) (trees : PieceTrees) : Type 0 where
  pub diffusion : IsPieceTree boxes pieces ND trees.diffusion
  pub poly : IsPieceTree boxes pieces NP trees.poly
  pub metal : IsPieceTree boxes pieces NM trees.metal

-- ---- crowded cuts

-- a cut that joins and has no list
abbrev pub IsCrowded : List MaskBox → List Placed → Lists → ℕ → Type 0
IsCrowded boxes pieces lists k = IsJoining boxes pieces k × (HasList lists k → ⊥)

abbrev pub AreCrowdedEntries : List MaskBox → List Placed → Lists → ℕ → List Entry → Type 0
AreCrowdedEntries boxes pieces lists n entries = AreEntries n (IsCrowded boxes pieces lists) (cut_entry boxes pieces)
    entries

-- it is told of number k that it is one
abbrev pub IsTold : List Bool → ℕ → Type 0
IsTold told k = IsTrue (slice_index_or told k false)

-- ---- the entries of each piece

-- one more than the last of the first n entries that is of piece a, or 0 where none is
pub record IsLastOf (nodes : List ℕ) (a n last : ℕ) : Type 0 where
  pub within : last ≤ n
  pub is : 0 < last → slice_index nodes (last - 1) ≡ a
  pub none : (e : ℕ) → last ≤ e → e < n → slice_index nodes e ≢ a

-- for each piece its last entry among the first n, and for each of these the one before it of the same piece
pub record AreLinked (count : ℕ) (nodes : List ℕ) (n : ℕ) (heads nexts : List ℕ) : Type 0 where
  pub one_head_each : length heads ≡ count
  pub one_next_each : length nexts ≡ n
  pub heads_are : (a : ℕ) → a < count → IsLastOf nodes a n (slice_index heads a)
  pub nexts_are : (e : ℕ) → e < n → IsLastOf nodes (slice_index nodes e) e (slice_index nexts e)

-- entry number e is that of piece a and of cut k
pub record IsEntry (of cuts : List ℕ) (k a e : ℕ) : Type 0 where
  pub among : e < length of
  pub piece : slice_index of e ≡ a
  pub cut : slice_index cuts e ≡ k

-- The entries, each of a piece and a cut: one for each of these pairs, and no others.
pub record AreChains (Is : ℕ → ℕ → Type 0) (count : ℕ) (chains : Chains) : Type 0 where
  pub of : List ℕ
  pub counted : length chains.cuts.items ≡ length of
  pub linked : AreLinked count of (length of) chains.heads.items chains.nexts.items
  pub sound : (e : ℕ) → e < length of → Is (slice_index chains.cuts.items e) (slice_index of e)
  pub complete : (k a : ℕ) → Is k a → (e : ℕ) × IsEntry of chains.cuts.items k a e

-- the same of the cuts before one
abbrev pub IsListedBefore : Lists → ℕ → ℕ → ℕ → Type 0
IsListedBefore over n k a = (k < n) × IsListed over k a

-- the node of a cut in whose list is piece a, where so many pieces stand before the cuts
pub record IsListedOver (over : Lists) (count a y : ℕ) : Type 0 where
  pub cut : ℕ
  pub node : y ≡ count + cut
  pub is : IsListed over cut a

-- the lists of cuts, and the cuts over each piece
pub record AreCutLists (boxes : List MaskBox) (pieces : List Placed) (lists : CutLists) : Type 0 where
  pub over : AreLists (IsIn Over boxes pieces) (length boxes) lists.over
  pub chains : AreChains (IsListed lists.over) (length pieces) lists.chains
