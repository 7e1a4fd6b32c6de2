use Rattle.std.specs.Prelude.{◌^◌, ℤ, pos, neg_ℤ, ◌≤ℤ◌}
use Rattle.lam_geom.specs.declared.boxes.{Span.Span, BoxXY.BoxXY}

-- a coordinate within 2^60 of the origin, on either side
abbrev pub IsPlace : ℤ → Type 0
IsPlace z = (neg_ℤ (pos (2 ^ 60)) ≤ℤ z) × (z ≤ℤ pos (2 ^ 60))

-- both ends of a span are such coordinates
abbrev pub IsPlacedSpan : Span → Type 0
IsPlacedSpan s = IsPlace s.lo × IsPlace s.hi

-- the four sides of a box are such coordinates
abbrev pub IsPlacedBox : BoxXY → Type 0
IsPlacedBox b = IsPlacedSpan b.x × IsPlacedSpan b.y
