-- Trees of the boxes on a layer: what entries they are of.
use Rattle.std.specs.Prelude.{◌≡◌, ℕ, ◌<◌, ◌≤◌, All, Contains, IfSome, Option, Some, None, List, length, slice_index_or}
use Rattle.lam_geom.specs.declared.boxes.{MaskBox.MaskBox, MaskLayer.{MaskLayer, TheVariants.{ND, NP, NI, NB}}}
use Rattle.box_tree.specs.declared.entries.Entry.{Entry}
use Rattle.crossings.specs.{declared.{entries.Trees.Trees, partners.Partners.Partners}, Pairs.{DoOverlap, HowMany}}
use Rattle.crossings.specs.Pairs.{facing_of}
use Rattle.crossing_model.specs.Boxes.{area_at, layer_at, IsOn}

-- ---- lists of entries

-- box number k
abbrev pub box_entry : List MaskBox → ℕ → Entry
box_entry boxes k = record { area = area_at boxes k; owner = k; tag = 0 }

-- the entries of the numbers below n with a property: all of them, and no others
pub record AreEntriesBelow (P : ℕ → Type 0) (entry : ℕ → Entry) (n : ℕ) (entries : List Entry) : Type 0 where
  pub sound : All (λ (s : Entry). (k : ℕ) × P k × (s ≡ entry k)) entries
  pub complete : (k : ℕ) → k < n → P k → Contains entries (entry k)
  pub few : length entries ≤ n

-- the boxes of a layer
abbrev pub AreBoxesOn : List MaskBox → MaskLayer → List Entry → Type 0
AreBoxesOn boxes layer entries = AreEntriesBelow (IsOn boxes layer) (box_entry boxes) (length boxes) entries

-- ---- the trees of the search for crossings

-- the trees of two layers
abbrev pub AreTwoTrees : List MaskBox → MaskLayer → MaskLayer → List Entry × List Entry → Type 0
AreTwoTrees boxes first second trees = AreBoxesOn boxes first trees.0 × AreBoxesOn boxes second trees.1

-- what is known of the boxes that each box overlaps on the layer that crosses its own: nothing, or how many
pub record ArePartnersOf (boxes : List MaskBox) (known : List (Option Partners)) : Type 0 where
  pub counted : length known ≡ length boxes
  pub each : (a : ℕ) → a < length boxes → IfSome (slice_index_or known a None) (HowMany (DoOverlap boxes a))

pub record AreTreesOf (boxes : List MaskBox) (trees : Trees) : Type 0 where
  pub poly : AreBoxesOn boxes NP trees.poly
  pub diffusion : AreBoxesOn boxes ND trees.diffusion
  pub windows : AreBoxesOn boxes NB trees.windows
  pub implants : AreBoxesOn boxes NI trees.implants
  pub partners : ArePartnersOf boxes trees.partners.items

-- the boxes of the layer that crosses that of box a
pub record AreEntriesFacing (boxes : List MaskBox) (a : ℕ) (entries : List Entry) : Type 0 where
  pub among : a < length boxes
  pub layer : MaskLayer
  pub facing : facing_of (layer_at boxes a) ≡ Some layer
  pub entries_of : AreBoxesOn boxes layer entries
