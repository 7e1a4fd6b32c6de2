-- Where the pieces of boxes lie.
use Rattle.std.specs.Prelude.{◌≡◌, ℕ, ℤ, Contains, List}
use Rattle.lam_geom.specs.{declared.boxes.{BoxXY.BoxXY, MaskBox.MaskBox, Span.Span}, Gaps.span_along}
use Rattle.crossing_model.specs.{declared.crossing.Crossing.Crossing, Boxes.{area_at, other}}
use Rattle.box_pieces.specs.{declared.placing.Part.{Part, TheVariants.{Whole, Low, High}}, Places.Place}

-- a span from here to there
abbrev pub Spans : ℤ → ℤ → Span → Type 0
Spans lo hi span = (span.lo ≡ lo) × (span.hi ≡ hi)

-- On the gate's axis a piece of crossed diffusion is as long as its box. On the other it goes from the box's low end
-- to the channel, or from the channel to the box's high end.
abbrev pub IsLowPiece : Crossing → BoxXY → BoxXY → Type 0
IsLowPiece c box area =
    Spans (span_along box c.axis).lo (span_along box c.axis).hi (span_along area c.axis)
    × Spans (span_along box (other c.axis)).lo (span_along c.channel (other c.axis)).lo (span_along area (other c.axis))

abbrev pub IsHighPiece : Crossing → BoxXY → BoxXY → Type 0
IsHighPiece c box area =
    Spans (span_along box c.axis).lo (span_along box c.axis).hi (span_along area c.axis)
    × Spans (span_along c.channel (other c.axis)).hi (span_along box (other c.axis)).hi (span_along area (other c.axis))

-- the crossing of this diffusion box
pub record IsCrossingOf (crossings : List Crossing) (k : ℕ) (c : Crossing) : Type 0 where
  pub among : Contains crossings c
  pub diffusion : c.diffusion ≡ k

-- the area of a part of box number k
abbrev pub IsAreaOfPart : List MaskBox → List Crossing → ℕ → Part → BoxXY → Type 0
IsAreaOfPart boxes crossings k Whole area = area ≡ area_at boxes k
IsAreaOfPart boxes crossings k Low area = (c : Crossing) × IsCrossingOf crossings k c
    × IsLowPiece c (area_at boxes k) area
IsAreaOfPart boxes crossings k High area = (c : Crossing) × IsCrossingOf crossings k c
    × IsHighPiece c (area_at boxes k) area

-- the area of a piece
abbrev pub IsAreaOf : List MaskBox → List Crossing → Place → BoxXY → Type 0
IsAreaOf boxes crossings p area = IsAreaOfPart boxes crossings p.box_no p.part area
