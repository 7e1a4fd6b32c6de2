use Rattle.std.specs.{Prelude.{ℤ, pos, ◌+ℤ◌, ◌-ℤ◌, ◌≤ℤ◌, ◌<ℤ◌}, Int.int_max}
use Rattle.lam_geom.specs.declared.boxes.{Span.Span, BoxXY.BoxXY, Axis.{Axis, TheVariants.{X, Y}}}

-- how far a to b and c to d lie apart: the greater of the two one-sided distances.
-- It is 0 where they share an end, and below 0 where they overlap.
abbrev pub gap_between : ℤ → ℤ → ℤ → ℤ → ℤ
gap_between a b c d = int_max (c -ℤ b) (a -ℤ d)

-- how far two spans lie apart
abbrev pub gap_of : Span → Span → ℤ
gap_of a b = gap_between a.lo a.hi b.lo b.hi

-- the Chebyshev distance of two boxes: the greater of their gaps on x and on y
abbrev pub gap_of_boxes : BoxXY → BoxXY → ℤ
gap_of_boxes a b = int_max (gap_of a.x b.x) (gap_of a.y b.y)

-- boxes touch that share an edge, a corner or more
abbrev pub Touches : BoxXY → BoxXY → Type 0
Touches a b = gap_of_boxes a b ≤ℤ pos 0

-- boxes overlap that share more than their border
abbrev pub Overlaps : BoxXY → BoxXY → Type 0
Overlaps a b = gap_of_boxes a b <ℤ pos 0

-- each end of the inner span lies at least the margin inside the same end of the outer one
abbrev pub EnclosesSpan : Span → Span → ℤ → Type 0
EnclosesSpan outer inner margin = ((outer.lo +ℤ margin) ≤ℤ inner.lo) × ((inner.hi +ℤ margin) ≤ℤ outer.hi)

-- each side of the inner box lies at least the margin inside the same side of the outer one
abbrev pub Encloses : BoxXY → BoxXY → ℤ → Type 0
Encloses outer inner margin = EnclosesSpan outer.x inner.x margin × EnclosesSpan outer.y inner.y margin

-- the box with x and y exchanged
abbrev pub transposed : BoxXY → BoxXY
transposed b = record { x = b.y; y = b.x }

-- the box's span on an axis
abbrev pub span_along : BoxXY → Axis → Span
span_along b X = b.x
span_along b Y = b.y
