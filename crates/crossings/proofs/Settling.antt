-- One window over what a box and an area have in common: the box meets none that lies inside the area.
use Rattle.std.proofs.{Common.{◌≡◌, ℕ, ℤ, pos, ◌≤ℤ◌, ◌<ℤ◌, inl, inr, IsTrue, List, refl, subst, arith}, lemmas.Int.ints}
use Rattle.std.{proofs.lemmas.Int.clamps, specs.Int.{int_max, int_min}}
use Rattle.lam_geom.specs.declared.boxes.{BoxXY.BoxXY, MaskBox.MaskBox, MaskLayer.TheVariants.NB, Span.Span}
use Rattle.lam_geom.specs.Gaps.{Encloses, EnclosesSpan, Overlaps, gap_of}
use Rattle.rule_table.specs.{declared.technology.Tech.Tech, Technology.{has_buried_of, numbers_of}}
use Rattle.crossing_model.specs.Boxes.{IsCommon, IsCommonSpan, area_at, grains, IsCovered}
use Rattle.crossing_model.specs.Crossings.{IsBuriedPair, IsOverlap}
use Rattle.crossings.{specs.Pairs.Meets, proofs.{Facing.{area_overlap, overlap_turned}, Meetings.meets_overlap}}

-- ---- what has nothing in common with an area has nothing in common with what lies inside

span_nearer : (a outer inner : Span) → EnclosesSpan outer inner (pos 0) → gap_of a outer ≤ℤ gap_of a inner
span_nearer a outer inner h = omega (arith, ints, clamps, h.0, h.1)

both_less : (a b c d : ℤ) → a ≤ℤ c → b ≤ℤ d → int_max c d <ℤ pos 0 → int_max a b <ℤ pos 0
both_less a b c d h k less = omega (arith, ints, clamps)

outer_overlaps : (a outer inner : BoxXY) → Encloses outer inner (pos 0) → Overlaps a inner → Overlaps a outer
outer_overlaps a outer inner h over =
    both_less (gap_of a.x outer.x) (gap_of a.y outer.y) (gap_of a.x inner.x) (gap_of a.y inner.y)
    (span_nearer a.x outer.x inner.x h.0) (span_nearer a.y outer.y inner.y h.1) over

pub apart_meets_none : (tech : Tech) (boxes : List MaskBox) (a k : ℕ) (outer : BoxXY)
    → (Overlaps (area_at boxes a) outer → ⊥) → Encloses outer (area_at boxes k) (pos 0) → Meets tech boxes a k → ⊥
apart_meets_none tech boxes a k outer apart inside met =
    apart (outer_overlaps (area_at boxes a) outer (area_at boxes k) inside
    (area_overlap boxes a k (meets_overlap tech boxes a k met)))

-- ---- what a window goes past

span_apart : (a b : ℤ) → int_max a b <ℤ pos 0 → (a <ℤ pos 0) × (b <ℤ pos 0)
span_apart a b h = (omega (arith, ints, clamps), omega (arith, ints, clamps))

common_ordered : (a b : Span) → gap_of a b <ℤ pos 0 → int_max a.lo b.lo ≤ℤ int_min a.hi b.hi
common_ordered a b h = let p = a.ordered in let q = b.ordered in omega (arith, ints, clamps)

abbrev common_span : (a b : Span) → gap_of a b <ℤ pos 0 → Span
common_span a b h = record { lo = int_max a.lo b.lo; hi = int_min a.hi b.hi; ordered = common_ordered a b h }

-- of two spans of which the second lies in another, the common part lies in what that one has in common
span_within : (a b outer window common part : Span) (margin : ℤ) → IsCommonSpan a outer common
    → EnclosesSpan outer b (pos 0) → EnclosesSpan window common margin
    → part.lo ≡ int_max a.lo b.lo → part.hi ≡ int_min a.hi b.hi → EnclosesSpan window part margin
span_within a b outer window common part margin is h k lo hi =
    (omega (arith, ints, clamps, is.lo, h.0, k.0, lo), omega (arith, ints, clamps, is.hi, h.1, k.1, hi))

abbrev common_of : (a b : BoxXY) → Overlaps a b → BoxXY
common_of a b h = let apart =
    span_apart (gap_of a.x b.x) (gap_of a.y b.y) h in
    record { x = common_span a.x b.x apart.0; y = common_span a.y b.y apart.1 }

is_common : (a b : BoxXY) (h : Overlaps a b) → IsCommon a b (common_of a b h)
is_common a b h = record { x = record { lo = refl; hi = refl }; y = record { lo = refl; hi = refl } }

span_turned : (a b common : Span) → IsCommonSpan a b common → IsCommonSpan b a common
span_turned a b common h = record { lo = omega (arith, ints, clamps, h.lo); hi = omega (arith, ints, clamps, h.hi) }

common_turned : (a b common : BoxXY) → IsCommon a b common → IsCommon b a common
common_turned a b common h = record { x = span_turned a.x b.x common.x h.x; y = span_turned a.y b.y common.y h.y }

common_within : (a b outer window common : BoxXY) (margin : ℤ) (over : Overlaps a b) → IsCommon a outer common
    → Encloses outer b (pos 0) → Encloses window common margin → Encloses window (common_of a b over) margin
common_within a b outer window common margin over is h k =
    let part = common_of a b over in (
      span_within a.x b.x outer.x window.x common.x part.x margin is.x h.0 k.0 refl refl,
      span_within a.y b.y outer.y window.y common.y part.y margin is.y h.1 k.1 refl refl,
    )

buried_under : (tech : Tech) (boxes : List MaskBox) (a k p d : ℕ) (outer common : BoxXY) (margin : ℤ)
    (over : Overlaps (area_at boxes a) (area_at boxes k)) → IsTrue (has_buried_of tech)
    → IsCommon (area_at boxes a) outer common → IsCovered boxes NB common margin
    → margin ≡ grains tech (numbers_of tech).extension_buried → Encloses outer (area_at boxes k) (pos 0)
    → IsOverlap boxes p d
    → IsCommon (area_at boxes p) (area_at boxes d) (common_of (area_at boxes a) (area_at boxes k) over)
    → IsBuriedPair tech boxes p d
buried_under tech boxes a k p d outer common margin over has is window same inside overlap shared = record {
  has_buried = has;
  overlap = overlap;
  shared = common_of (area_at boxes a) (area_at boxes k) over;
  common = shared;
  window = window.cover;
  is_window = window.is_on;
  covered =
      subst (λ (m : ℤ). Encloses (area_at boxes window.cover) (common_of (area_at boxes a) (area_at boxes k) over) m)
      same
      (common_within (area_at boxes a) (area_at boxes k) outer (area_at boxes window.cover) common margin over is
      inside window.covers);
}

pub settled_meets_none : (tech : Tech) (boxes : List MaskBox) (a k : ℕ) (outer common : BoxXY) (margin : ℤ)
    → IsTrue (has_buried_of tech) → IsCommon (area_at boxes a) outer common
    → IsCovered boxes NB common margin → margin ≡ grains tech (numbers_of tech).extension_buried
    → Encloses outer (area_at boxes k) (pos 0) → Meets tech boxes a k → ⊥
settled_meets_none tech boxes a k outer common margin has is window same inside (inl met) =
    let over = met.overlap.overlap in
    met.unburied
    (buried_under tech boxes a k a k outer common margin over has is window same inside met.overlap
    (is_common (area_at boxes a) (area_at boxes k) over))
settled_meets_none tech boxes a k outer common margin has is window same inside (inr met) =
    let over = overlap_turned (area_at boxes k) (area_at boxes a) met.overlap.overlap in
    met.unburied (buried_under tech boxes a k k a outer common margin over has is window same inside met.overlap
    (common_turned (area_at boxes a) (area_at boxes k) (common_of (area_at boxes a) (area_at boxes k) over)
    (is_common (area_at boxes a) (area_at boxes k) over)))
