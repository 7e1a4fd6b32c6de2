-- What is found of partners for all boxes of a group at once.
use Rattle.std.specs.Prelude.{◌≡◌, ℕ, ◌<◌, All, Some, List, length, slice_index}
use Rattle.lam_geom.specs.declared.boxes.{MaskBox.MaskBox, MaskLayer.MaskLayer}
use Rattle.box_tree.specs.{declared.entries.Entry.Entry, Tree.{IsTreeOf, entry_of}}
use Rattle.crossings.specs.declared.partner_lists.{BoxPartners.BoxPartners, LayerTrees.LayerTrees}
use Rattle.crossings.specs.{Pairs.{DoOverlap, HowMany, facing_of}, Entries.AreBoxesOn}

-- what was found of a box: how many boxes it overlaps
pub record IsFound (boxes : List MaskBox) (found : BoxPartners) : Type 0 where
  pub among : found.number < length boxes
  pub partners : HowMany (DoOverlap boxes found.number) found.partners

-- the tree of a layer, beside that of the layer that crosses it
pub record AreLayerTrees (boxes : List MaskBox) (trees : LayerTrees) : Type 0 where
  pub layer : MaskLayer
  pub other : MaskLayer
  pub crosses : facing_of layer ≡ Some other
  pub tree : IsTreeOf trees.own.entries.now trees.own.groups.now
  pub own : AreBoxesOn boxes layer trees.own.entries.now
  pub others : AreBoxesOn boxes other trees.facing.now

-- the entry of which the number stands at a place in a list
abbrev pub numbered_entry : List Entry → List ℕ → ℕ → Entry
numbered_entry entries numbers place = entry_of entries (slice_index numbers place)

-- box b is that of an entry at a place before another, in a list of numbers of entries
pub record IsOwnerBefore (entries : List Entry) (numbers : List ℕ) (end b : ℕ) : Type 0 where
  pub place : ℕ
  pub before : place < end
  pub owner : (numbered_entry entries numbers place).owner ≡ b

-- and box a overlaps it
abbrev pub OverlapsBefore : List MaskBox → ℕ → List Entry → List ℕ → ℕ → ℕ → Type 0
OverlapsBefore boxes a entries numbers end b = DoOverlap boxes a b × IsOwnerBefore entries numbers end b

-- numbers of entries, with one at least of each box that box a overlaps
pub record HaveOverlapped (boxes : List MaskBox) (a : ℕ) (entries : List Entry) (numbers : List ℕ) : Type 0 where
  pub among : All (λ k. k < length entries) numbers
  pub complete : (b : ℕ) → DoOverlap boxes a b → IsOwnerBefore entries numbers (length numbers) b
