-- The pieces into which boxes fall, by where they stand: crossed diffusion has two, other diffusion, poly and metal
-- one.
use Rattle.std.specs.{Prelude.{ℕ, ◌==◌, Bool, List, [], ◌∷◌, length, map, flat_map, if◌then◌else◌}, List.list_any}
use Rattle.std.specs.List.{range_with_len}
use Rattle.lam_geom.specs.declared.boxes.{MaskBox.MaskBox, MaskLayer.{MaskLayer, TheVariants.{ND, NP, NC, NM, NI, NB}}}
use Rattle.crossing_model.specs.{declared.crossing.Crossing.Crossing, Boxes.layer_at}
use Rattle.box_pieces.specs.declared.placing.Part.{Part, TheVariants.{Whole, Low, High}}

-- a piece by the number of its box and its part of it
pub record Place : Type 0 where
  pub box_no : ℕ
  pub part : Part

abbrev pub place : ℕ → Part → Place
place k part = record { box_no = k; part = part }

-- ---- the pieces of boxes

abbrev pub crosses_box : ℕ → Crossing → Bool
crosses_box k c = c.diffusion == k

abbrev pub is_crossed : List Crossing → ℕ → Bool
is_crossed crossings k = list_any (crosses_box k) crossings

-- crossed diffusion has a low and a high piece
abbrev pub parts_of_diffusion : Bool → List Part
parts_of_diffusion crossed = if crossed then Low ∷ High ∷ [] else Whole ∷ []

-- cuts, implants and windows have none
abbrev pub parts_on : MaskLayer → Bool → List Part
parts_on ND crossed = parts_of_diffusion crossed
parts_on NP crossed = Whole ∷ []
parts_on NM crossed = Whole ∷ []
parts_on NC crossed = []
parts_on NI crossed = []
parts_on NB crossed = []

abbrev pub places_at : List Crossing → List MaskBox → ℕ → List Place
places_at crossings boxes k = map (place k) (parts_on (layer_at boxes k) (is_crossed crossings k))

-- in order of the boxes, low before high
abbrev pub places_of : List Crossing → List MaskBox → List Place
places_of crossings boxes = flat_map (places_at crossings boxes) (range_with_len 0 (length boxes))
