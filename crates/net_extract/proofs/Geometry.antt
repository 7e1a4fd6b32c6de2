-- Boxes that touch and overlap.
use Rattle.std.proofs.{Common.{ℤ, pos, ◌≤ℤ◌, arith}, lemmas.Int.{ints, clamps}}
use Rattle.lam_geom.specs.{declared.boxes.{BoxXY.BoxXY, Span.Span}, Gaps.{Touches, Overlaps, Encloses, EnclosesSpan, gap_of_boxes}}
use Rattle.lam_geom.specs.Places.{IsPlacedBox, IsPlacedSpan}

pub overlaps_back : (a b : BoxXY) → Overlaps a b → Overlaps b a
overlaps_back a b o = omega (arith, ints, clamps, o)

pub touches_back : (a b : BoxXY) → Touches a b → Touches b a
touches_back a b t = omega (arith, ints, clamps, t)

-- what is near a box is as near to what encloses that
pub near_outer : (outer own other : BoxXY) (reach : ℤ) → Encloses outer own (pos 0)
    → gap_of_boxes own other ≤ℤ reach → gap_of_boxes outer other ≤ℤ reach
near_outer outer own other reach e near = omega (arith, ints, clamps, e, near)

placed_span : (outer inner : Span) → IsPlacedSpan outer → EnclosesSpan outer inner (pos 0) → IsPlacedSpan inner
placed_span outer inner (low, high) (first, last) =
    let o = inner.ordered in (
      (omega (arith, ints, low, first), omega (arith, ints, high, last, o)),
      (omega (arith, ints, low, first, o), omega (arith, ints, high, last)),
    )

-- a box within one that is placed is placed
pub placed_inner : (outer inner : BoxXY) → IsPlacedBox outer → Encloses outer inner (pos 0) → IsPlacedBox inner
placed_inner outer inner p e = (placed_span outer.x inner.x p.0 e.0, placed_span outer.y inner.y p.1 e.1)
