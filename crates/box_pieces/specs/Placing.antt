-- The pieces of one box.
use Rattle.std.specs.Prelude.{◌≡◌, ℕ, pos, All, List, map, Option, is_some}
use Rattle.lam_geom.specs.{declared.boxes.MaskBox.MaskBox, Gaps.Encloses}
use Rattle.crossing_model.specs.{declared.crossing.Crossing.Crossing, Boxes.{area_at, layer_at}}
use Rattle.box_pieces.specs.declared.placing.Placed.{Placed}
use Rattle.box_pieces.specs.{Places.{place, parts_on}, Pieces.{stand_of, Conducts, IsPartOf}}

-- a piece of box number k
pub record IsPieceOfBox (boxes : List MaskBox) (k : ℕ) (crossing : Option Crossing) (piece : Placed) : Type 0 where
  pub box : piece.box_no ≡ k
  pub conducts : Conducts (layer_at boxes k)
  pub area : IsPartOf (area_at boxes k) crossing piece.part piece.area
  pub inside : Encloses (area_at boxes k) piece.area (pos 0)

-- the pieces of box number k, which has this crossing or none
pub record AreOfBox (boxes : List MaskBox) (k : ℕ) (crossing : Option Crossing) (pieces : List Placed) : Type 0 where
  pub places : map stand_of pieces ≡ map (place k) (parts_on (layer_at boxes k) (is_some crossing))
  pub each : All (IsPieceOfBox boxes k crossing) pieces
