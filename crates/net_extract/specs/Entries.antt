-- The entries of nodes.
use Rattle.std.specs.{Prelude.{◌≡◌, ℕ, ◌<◌, ◌≤◌, IsTrue, List, length, flat_map}, List.range_with_len}
use Rattle.box_tree.specs.declared.entries.Entry.{Entry}
use Rattle.lam_geom.specs.declared.boxes.{MaskBox.MaskBox, MaskLayer.{MaskLayer, TheVariants.NM}}
use Rattle.rule_table.specs.{declared.technology.Tech.Tech, Technology.has_buried_of}
use Rattle.crossing_model.specs.{declared.crossing.Crossing.Crossing, Boxes.{area_at, layer_at, IsOn}}
use Rattle.crossings.specs.Entries.{AreEntriesBelow}
use Rattle.box_pieces.specs.{declared.placing.Placed.Placed, Pieces.{box_of, area_of}, Places.places_at}
use Rattle.net_extract.specs.Linking.{cut_node}

-- the entries of the numbers below n that have a property
abbrev pub AreEntries : ℕ → (ℕ → Type 0) → (ℕ → Entry) → List Entry → Type 0
AreEntries n P entry_at entries = AreEntriesBelow (λ a. (a < n) × P a) entry_at n entries

-- a box under its number
abbrev pub own_entry : List MaskBox → ℕ → Entry
own_entry boxes k = record { area = area_at boxes k; owner = k; tag = k }

-- The boxes of metal among the first n, each under its number: no more of them than these boxes have pieces, whatever
-- their crossings.
pub record AreMetalBelow (boxes : List MaskBox) (n : ℕ) (entries : List Entry) : Type 0 where
  pub are : AreEntriesBelow (IsOn boxes NM) (own_entry boxes) n entries
  pub few : (crossings : List Crossing)
      → length entries ≤ length (flat_map (places_at crossings boxes) (range_with_len 0 n))

-- those of all boxes
abbrev pub AreMetalBoxes : List MaskBox → List Entry → Type 0
AreMetalBoxes boxes entries = AreMetalBelow boxes (length boxes) entries

-- a piece by the area that it covers
abbrev pub piece_entry : List Placed → ℕ → Entry
piece_entry pieces a = record { area = area_of pieces a; owner = box_of pieces a; tag = a }

-- a piece by the area of its box
abbrev pub box_entry : List MaskBox → List Placed → ℕ → Entry
box_entry boxes pieces a = record { area = area_at boxes (box_of pieces a); owner = box_of pieces a; tag = a }

-- a cut
abbrev pub cut_entry : List MaskBox → List Placed → ℕ → Entry
cut_entry boxes pieces k = record { area = area_at boxes k; owner = k; tag = cut_node pieces k }

abbrev pub IsPieceOn : List MaskBox → List Placed → MaskLayer → ℕ → Type 0
IsPieceOn boxes pieces layer a = layer_at boxes (box_of pieces a) ≡ layer

abbrev pub MayBeBuried : Tech → List MaskBox → List Placed → MaskLayer → ℕ → Type 0
MayBeBuried tech boxes pieces layer a = IsTrue (has_buried_of tech) × IsPieceOn boxes pieces layer a

-- the pieces on a layer
abbrev pub ArePieceEntries : List MaskBox → List Placed → MaskLayer → List Entry → Type 0
ArePieceEntries boxes pieces layer entries =
    AreEntries (length pieces) (IsPieceOn boxes pieces layer) (piece_entry pieces) entries

-- the same by their boxes, where there are buried contacts
abbrev pub AreBoxEntries : Tech → List MaskBox → List Placed → MaskLayer → List Entry → Type 0
AreBoxEntries tech boxes pieces layer entries =
    AreEntries (length pieces) (MayBeBuried tech boxes pieces layer) (box_entry boxes pieces) entries
