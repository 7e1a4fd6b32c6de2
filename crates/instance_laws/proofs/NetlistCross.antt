-- Poly and diffusion of a transistor as they cross: the same seen along either axis, in u and in grains.
use Rattle.std.proofs.{Common.{◌≡◌, ℤ, pos, ◌+ℤ◌, ◌-ℤ◌, ◌≤ℤ◌, ◌<ℤ◌, refl, ap, ◌∙◌, subst, arith}, lemmas.Int.ints}
use Rattle.lam_geom.specs.declared.boxes.{Axis.{Axis, TheVariants.{X, Y}}, BoxXY.BoxXY}
use Rattle.rule_table.specs.{declared.technology.Tech.Tech, Technology.numbers_of}
use Rattle.sym_items.specs.{Sides.{Sides, sides_of, gap_of_sides}, Transposed.sides_along}
use Rattle.cell_model.specs.declared.cell.Axis2.{Axis2, TheVariants.{Across, Up}}
use Rattle.expand.proofs.Among.{sound_numbers}
use Rattle.buried_contacts.{specs.Contacts.{axis_along, common}, proofs.Shares.same_sides}
use Rattle.crossing_model.specs.{Boxes.{extent, other, grains}, Crossings.CrossAlong}
use Rattle.instance_laws.{specs.{Meetings.CrossAt, Shapes.sides_in_grains}, proofs.MeetingGaps.common_overlaps}
use Rattle.instance_laws.proofs.NetlistScale.{grains_positive, margin_exact, length_in_grains}

-- the channel is what they have in common, whichever way it is seen
pub channel_shared : (tech : Tech) (gate : Axis2) (w l : ℤ) (p d c : Sides)
    → CrossAt tech w l (sides_along (axis_along gate) p) (sides_along (axis_along gate) d)
    (sides_along (axis_along gate) c) → c ≡ common p d
channel_shared tech Across w l p d c h = h.shared
channel_shared tech Up w l p d c h =
    let e = h.shared in
    same_sides c (common p d) (ap (λ (z : Sides). z.bottom) e) (ap (λ (z : Sides). z.top) e)
    (ap (λ (z : Sides). z.left) e) (ap (λ (z : Sides). z.right) e)

-- it has an inside
pub channel_inside : (tech : Tech) (gate : Axis2) (w l : ℤ) (p d c : Sides)
    → CrossAt tech w l (sides_along (axis_along gate) p) (sides_along (axis_along gate) d)
    (sides_along (axis_along gate) c)
    → pos 1 ≤ℤ w → pos 1 ≤ℤ l → (c.left <ℤ c.right) × (c.bottom <ℤ c.top)
channel_inside tech Across w l p d c h low_w low_l =
    (let e = h.wide in let f = h.long in (omega (arith, ints, e, low_w), omega (arith, ints, f, low_l)))
channel_inside tech Up w l p d c h low_w low_l =
    (let e = h.wide in let f = h.long in (omega (arith, ints, f, low_l), omega (arith, ints, e, low_w)))

pub cross_overlap : (tech : Tech) (gate : Axis2) (w l : ℤ) (p d c : Sides)
    → CrossAt tech w l (sides_along (axis_along gate) p) (sides_along (axis_along gate) d)
    (sides_along (axis_along gate) c)
    → pos 1 ≤ℤ w → pos 1 ≤ℤ l → gap_of_sides p d <ℤ pos 0
cross_overlap tech gate w l p d c h low_w low_l =
    let e = channel_shared tech gate w l p d c h in
    let i = channel_inside tech gate w l p d c h low_w low_l in
    common_overlaps p d (subst (λ (z : Sides). z.left <ℤ z.right) e i.0)
    (subst (λ (z : Sides). z.bottom <ℤ z.top) e i.1)

-- in grains
pub cross_along : (tech : Tech) (gate : Axis2) (w l : ℤ) (p d c : Sides) (s t : BoxXY)
    → CrossAt tech w l (sides_along (axis_along gate) p) (sides_along (axis_along gate) d) c
    → sides_of s ≡ sides_in_grains tech p → sides_of t ≡ sides_in_grains tech d → CrossAlong tech (axis_along gate) s t
cross_along tech Across w l p d c s t h e f =
    let poly : ℤ = (numbers_of tech).extension_poly in
    let diffusion : ℤ = (numbers_of tech).extension_diffusion in
    record {
      gate = (
        margin_exact tech s.x.lo t.x.lo p.left poly d.left (ap (λ (z : Sides). z.left) e)
            (ap (λ (z : Sides). z.left) f) h.left,
        margin_exact tech t.x.hi s.x.hi d.right poly p.right (ap (λ (z : Sides). z.right) f)
            (ap (λ (z : Sides). z.right) e) h.right,
      );
      channel = (
        margin_exact tech t.y.lo s.y.lo d.bottom diffusion p.bottom (ap (λ (z : Sides). z.bottom) f)
            (ap (λ (z : Sides). z.bottom) e) h.bottom,
        margin_exact tech s.y.hi t.y.hi p.top diffusion d.top (ap (λ (z : Sides). z.top) e)
            (ap (λ (z : Sides). z.top) f) h.top,
      );
    }
cross_along tech Up w l p d c s t h e f =
    let poly : ℤ = (numbers_of tech).extension_poly in
    let diffusion : ℤ = (numbers_of tech).extension_diffusion in
    record {
      gate = (
        margin_exact tech s.y.lo t.y.lo p.bottom poly d.bottom (ap (λ (z : Sides). z.bottom) e)
            (ap (λ (z : Sides). z.bottom) f) h.left,
        margin_exact tech t.y.hi s.y.hi d.top poly p.top (ap (λ (z : Sides). z.top) f) (ap (λ (z : Sides). z.top) e)
            h.right,
      );
      channel = (
        margin_exact tech t.x.lo s.x.lo d.left diffusion p.left (ap (λ (z : Sides). z.left) f)
            (ap (λ (z : Sides). z.left) e) h.bottom,
        margin_exact tech s.x.hi t.x.hi p.right diffusion d.right (ap (λ (z : Sides). z.right) e)
            (ap (λ (z : Sides). z.right) f) h.top,
      );
    }

-- how wide and long the channel is in grains
pub channel_extents : (tech : Tech) (gate : Axis2) (w l : ℤ) (p d c : Sides) (b : BoxXY)
    → CrossAt tech w l (sides_along (axis_along gate) p) (sides_along (axis_along gate) d)
    (sides_along (axis_along gate) c)
    → sides_of b ≡ sides_in_grains tech c → (extent (axis_along gate) b ≡ grains tech w)
    × (extent (other (axis_along gate)) b ≡ grains tech l)
channel_extents tech Across w l p d c b h e = (
  ap (λ (z : Sides). z.right -ℤ z.left) e ∙ length_in_grains tech c.right c.left w h.wide,
  ap (λ (z : Sides). z.top -ℤ z.bottom) e ∙ length_in_grains tech c.top c.bottom l h.long,
)
channel_extents tech Up w l p d c b h e = (
  ap (λ (z : Sides). z.top -ℤ z.bottom) e ∙ length_in_grains tech c.top c.bottom w h.wide,
  ap (λ (z : Sides). z.right -ℤ z.left) e ∙ length_in_grains tech c.right c.left l h.long,
)

-- poly goes past diffusion along one axis only
pub one_axis : (tech : Tech) (a b : Axis) (s t : BoxXY) → CrossAlong tech a s t → CrossAlong tech b s t → a ≡ b
one_axis tech a b s t h k = by a b h k
  where
    poly_past : pos 1 ≤ℤ grains tech (numbers_of tech).extension_poly
    poly_past =
        let least = (sound_numbers tech).spacings.poly_diffusion in
        let more = (sound_numbers tech).gate_reaches in
        grains_positive tech (numbers_of tech).extension_poly (omega (arith, ints, least, more))

    diffusion_past : pos 1 ≤ℤ grains tech (numbers_of tech).extension_diffusion
    diffusion_past =
        let least = (sound_numbers tech).spacings.poly_diffusion in
        let more = (sound_numbers tech).diffusion_reaches in
        grains_positive tech (numbers_of tech).extension_diffusion (omega (arith, ints, least, more))

    no_way : (a b m n : ℤ) → pos 1 ≤ℤ m → pos 1 ≤ℤ n → (a +ℤ m) ≤ℤ b → (b +ℤ n) ≤ℤ a → ⊥
    no_way a b m n low lower h k = omega (arith, ints, low, lower, h, k)

    by : (a b : Axis) → CrossAlong tech a s t → CrossAlong tech b s t → a ≡ b
    by X X h k = refl
    by Y Y h k = refl
    by X Y h k = absurd (no_way s.x.lo t.x.lo _ _ poly_past diffusion_past h.gate.0 k.channel.0)
    by Y X h k = absurd (no_way s.y.lo t.y.lo _ _ poly_past diffusion_past h.gate.0 k.channel.0)
