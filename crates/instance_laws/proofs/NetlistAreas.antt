-- Where the low and the high piece of crossed diffusion lie.
use Rattle.std.proofs.{Common.{◌≡◌, ℤ, ◌≤ℤ◌, refl, sym, ap, ◌∙◌, subst, arith}, lemmas.Int.{ints, clamps}}
use Rattle.std.specs.Int.{int_max, int_min}
use Rattle.lam_geom.specs.{declared.boxes.{Axis.{Axis, TheVariants.{X, Y}}, BoxXY.BoxXY}, Gaps.span_along}
use Rattle.rule_table.specs.declared.technology.Tech.{Tech}
use Rattle.sym_items.specs.{Sides.{Sides, sides_of}, Transposed.sides_along}
use Rattle.cell_model.specs.declared.cell.Axis2.{Axis2, TheVariants.{Across, Up}}
use Rattle.buried_contacts.{specs.Contacts.axis_along, proofs.Shares.same_sides}
use Rattle.crossing_model.specs.{declared.crossing.Crossing.Crossing, Boxes.{other, IsCommon, grains}}
use Rattle.box_pieces.specs.Areas.{Spans, IsLowPiece, IsHighPiece}
use Rattle.instance_laws.specs.{Meetings.{below, above}, Shapes.sides_in_grains}

-- a piece of a box beside a channel, for a gate along an axis
abbrev LowAt : Axis → BoxXY → BoxXY → BoxXY → Type 0
LowAt axis channel box area =
    Spans (span_along box axis).lo (span_along box axis).hi (span_along area axis)
    × Spans (span_along box (other axis)).lo (span_along channel (other axis)).lo (span_along area (other axis))

abbrev HighAt : Axis → BoxXY → BoxXY → BoxXY → Type 0
HighAt axis channel box area =
    Spans (span_along box axis).lo (span_along box axis).hi (span_along area axis)
    × Spans (span_along channel (other axis)).hi (span_along box (other axis)).hi (span_along area (other axis))

-- ---- they are there

not_above : (a b z : ℤ) → z ≡ int_max a b → b ≤ℤ z
not_above a b z e = omega (arith, ints, clamps, e)

not_below : (a b z : ℤ) → z ≡ int_min a b → z ≤ℤ b
not_below a b z e = omega (arith, ints, clamps, e)

low_at : (axis : Axis) (poly box channel : BoxXY) → IsCommon poly box channel → (s : BoxXY) × LowAt axis channel box s
low_at X poly box channel h = (
  record {
    x = box.x;
    y = record { lo = box.y.lo; hi = channel.y.lo; ordered = not_above poly.y.lo box.y.lo channel.y.lo h.y.lo };
  },
  ((refl, refl), (refl, refl)),
)
low_at Y poly box channel h = (
  record {
    y = box.y;
    x = record { lo = box.x.lo; hi = channel.x.lo; ordered = not_above poly.x.lo box.x.lo channel.x.lo h.x.lo };
  },
  ((refl, refl), (refl, refl)),
)

high_at : (axis : Axis) (poly box channel : BoxXY) → IsCommon poly box channel → (s : BoxXY) × HighAt axis channel box s
high_at X poly box channel h = (
  record {
    x = box.x;
    y = record { lo = channel.y.hi; hi = box.y.hi; ordered = not_below poly.y.hi box.y.hi channel.y.hi h.y.hi };
  },
  ((refl, refl), (refl, refl)),
)
high_at Y poly box channel h = (
  record {
    y = box.y;
    x = record { lo = channel.x.hi; hi = box.x.hi; ordered = not_below poly.x.hi box.x.hi channel.x.hi h.x.hi };
  },
  ((refl, refl), (refl, refl)),
)

pub low_there : (c : Crossing) (poly box : BoxXY) → IsCommon poly box c.channel → (s : BoxXY) × IsLowPiece c box s
low_there c poly box h = low_at c.axis poly box c.channel h

pub high_there : (c : Crossing) (poly box : BoxXY) → IsCommon poly box c.channel → (s : BoxXY) × IsHighPiece c box s
high_there c poly box h = high_at c.axis poly box c.channel h

-- ---- they lie where the pieces of the transistor lie

-- a side of a piece: that of a box, which is in grains that of an item
side : (tech : Tech) (x y a b : ℤ) → x ≡ y → y ≡ grains tech a → b ≡ a → x ≡ grains tech b
side tech x y a b e f h = e ∙ (f ∙ ap (grains tech) (sym h))

low_side : (tech : Tech) (gate : Axis2) (channel box s : BoxXY) (d c u : Sides)
    → sides_of box ≡ sides_in_grains tech d → sides_of channel ≡ sides_in_grains tech c
    → sides_along (axis_along gate) u ≡ below (sides_along (axis_along gate) d) (sides_along (axis_along gate) c)
    → LowAt (axis_along gate) channel box s → sides_of s ≡ sides_in_grains tech u
low_side tech Across channel box s d c u e f b h = same_sides (sides_of s) (sides_in_grains tech u)
    (side tech s.x.lo box.x.lo d.left u.left h.0.0 (ap (λ (z : Sides). z.left) e) (ap (λ (z : Sides). z.left) b))
    (side tech s.x.hi box.x.hi d.right u.right h.0.1 (ap (λ (z : Sides). z.right) e) (ap (λ (z : Sides). z.right) b))
    (side tech s.y.lo box.y.lo d.bottom u.bottom h.1.0 (ap (λ (z : Sides). z.bottom) e)
    (ap (λ (z : Sides). z.bottom) b))
    (side tech s.y.hi channel.y.lo c.bottom u.top h.1.1 (ap (λ (z : Sides). z.bottom) f) (ap (λ (z : Sides). z.top) b))
low_side tech Up channel box s d c u e f b h = same_sides (sides_of s) (sides_in_grains tech u)
    (side tech s.x.lo box.x.lo d.left u.left h.1.0 (ap (λ (z : Sides). z.left) e) (ap (λ (z : Sides). z.bottom) b))
    (side tech s.x.hi channel.x.lo c.left u.right h.1.1 (ap (λ (z : Sides). z.left) f) (ap (λ (z : Sides). z.top) b))
    (side tech s.y.lo box.y.lo d.bottom u.bottom h.0.0 (ap (λ (z : Sides). z.bottom) e) (ap (λ (z : Sides). z.left) b))
    (side tech s.y.hi box.y.hi d.top u.top h.0.1 (ap (λ (z : Sides). z.top) e) (ap (λ (z : Sides). z.right) b))

high_side : (tech : Tech) (gate : Axis2) (channel box s : BoxXY) (d c u : Sides)
    → sides_of box ≡ sides_in_grains tech d → sides_of channel ≡ sides_in_grains tech c
    → sides_along (axis_along gate) u ≡ above (sides_along (axis_along gate) d) (sides_along (axis_along gate) c)
    → HighAt (axis_along gate) channel box s → sides_of s ≡ sides_in_grains tech u
high_side tech Across channel box s d c u e f b h = same_sides (sides_of s) (sides_in_grains tech u)
    (side tech s.x.lo box.x.lo d.left u.left h.0.0 (ap (λ (z : Sides). z.left) e) (ap (λ (z : Sides). z.left) b))
    (side tech s.x.hi box.x.hi d.right u.right h.0.1 (ap (λ (z : Sides). z.right) e) (ap (λ (z : Sides). z.right) b))
    (side tech s.y.lo channel.y.hi c.top u.bottom h.1.0 (ap (λ (z : Sides). z.top) f) (ap (λ (z : Sides). z.bottom) b))
    (side tech s.y.hi box.y.hi d.top u.top h.1.1 (ap (λ (z : Sides). z.top) e) (ap (λ (z : Sides). z.top) b))
high_side tech Up channel box s d c u e f b h = same_sides (sides_of s) (sides_in_grains tech u)
    (side tech s.x.lo channel.x.hi c.right u.left h.1.0 (ap (λ (z : Sides). z.right) f)
    (ap (λ (z : Sides). z.bottom) b))
    (side tech s.x.hi box.x.hi d.right u.right h.1.1 (ap (λ (z : Sides). z.right) e) (ap (λ (z : Sides). z.top) b))
    (side tech s.y.lo box.y.lo d.bottom u.bottom h.0.0 (ap (λ (z : Sides). z.bottom) e) (ap (λ (z : Sides). z.left) b))
    (side tech s.y.hi box.y.hi d.top u.top h.0.1 (ap (λ (z : Sides). z.top) e) (ap (λ (z : Sides). z.right) b))

pub low_lies : (tech : Tech) (gate : Axis2) (cr : Crossing) (box s : BoxXY) (d c u : Sides)
    → cr.axis ≡ axis_along gate → sides_of box ≡ sides_in_grains tech d → sides_of cr.channel ≡ sides_in_grains tech c
    → sides_along (axis_along gate) u ≡ below (sides_along (axis_along gate) d) (sides_along (axis_along gate) c)
    → IsLowPiece cr box s → sides_of s ≡ sides_in_grains tech u
low_lies tech gate cr box s d c u runs e f b h =
    low_side tech gate cr.channel box s d c u e f b (subst (λ (a : Axis). LowAt a cr.channel box s) runs h)

pub high_lies : (tech : Tech) (gate : Axis2) (cr : Crossing) (box s : BoxXY) (d c u : Sides)
    → cr.axis ≡ axis_along gate → sides_of box ≡ sides_in_grains tech d → sides_of cr.channel ≡ sides_in_grains tech c
    → sides_along (axis_along gate) u ≡ above (sides_along (axis_along gate) d) (sides_along (axis_along gate) c)
    → IsHighPiece cr box s → sides_of s ≡ sides_in_grains tech u
high_lies tech gate cr box s d c u runs e f b h =
    high_side tech gate cr.channel box s d c u e f b (subst (λ (a : Axis). HighAt a cr.channel box s) runs h)
