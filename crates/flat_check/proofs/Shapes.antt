-- Widths, and what the rules before those on nets say of the shapes of boxes.
use Rattle.std.proofs.Common.{◌≡◌, ◌↔◌, ℕ, ◌<◌, ◌≤◌, ℤ, ◌<ℤ◌, Bool, IsTrue, inl, inr, Some, List, length, refl, sym, ap}
use Rattle.std.proofs.{Common.{◌∙◌, subst, lit<, arith}, lemmas.Bool.cases_lt}
use Rattle.lam_geom.specs.declared.boxes.{Axis.Axis, MaskBox.MaskBox, MaskLayer.TheVariants.{ND, NP}}
use Rattle.rule_table.specs.declared.technology.Tech.{Tech}
use Rattle.crossing_model.specs.{Boxes.{area_at, box_at, layer_at, extent, grains}, Crossings.AreProper}
use Rattle.rule_breaks.specs.declared.rule.Rule.{Rule, TheVariants.{Width, CutSize, PolyToDiffusion, CutCover}}
use Rattle.rule_breaks.specs.Breaks.{number_of, width_on, IsNarrow, ArePairOf, IsPolyTooNear, ShapesHold}
use Rattle.rule_breaks.{specs.Order.IsKept, proofs.Turned.poly_turned}
use Rattle.flat_check.specs.FlatLayouts.{IsOnNets}

-- ---- poly near diffusion, in either order: no box is near itself
pub poly_of_two : (tech : Tech) (boxes : List MaskBox) (a b : ℕ) → IsPolyTooNear tech boxes a b → a ≡ b → ⊥
poly_of_two tech boxes a b h same = go h.on.pair where
  one : h.on.p ≡ h.on.q → ⊥
  one e = let f : NP ≡ ND = sym h.on.first.on ∙ ap (layer_at boxes) e ∙ h.on.second.on in cc

  go : ArePairOf a b h.on.p h.on.q → ⊥
  go (inl e) = one (sym e.0 ∙ same ∙ e.1)
  go (inr e) = one (sym e.1 ∙ sym same ∙ e.0)

poly_apart : (tech : Tech) (boxes : List MaskBox) → IsKept tech boxes PolyToDiffusion → (a b : ℕ)
    → IsPolyTooNear tech boxes a b → ⊥
poly_apart tech boxes kept a b h = elim (cases_lt a b) [
  | inl less ↦ kept a b (less, h)
  | inr more ↦ elim (cases_lt b a) [
    | inl under ↦ kept b a (under, poly_turned tech boxes a b h)
    | inr over ↦ poly_of_two tech boxes a b h (omega arith)
  ]
]

-- ---- where nets are looked at

pub after_shapes : (rule : Rule) → IsOnNets rule → 5 < number_of rule
after_shapes rule (inl e) = subst (λ (r : Rule). 5 < number_of r) (sym e) (lit< tt)
after_shapes rule (inr (inl e)) = subst (λ (r : Rule). 5 < number_of r) (sym e) (lit< tt)
after_shapes rule (inr (inr e)) = subst (λ (r : Rule). 5 < number_of r) (sym e) (lit< tt)

pub shapes_where : (tech : Tech) (boxes : List MaskBox) → AreProper tech boxes
    → ((earlier : Rule) → number_of earlier ≤ 5 → IsKept tech boxes earlier) → ShapesHold tech boxes
shapes_where tech boxes proper kept = record {
  widths = λ a h. kept Width (omega arith) a a (h, refl);
  cuts = λ a h. kept CutSize (omega arith) a a (h, refl);
  crossings = proper;
  poly = poly_apart tech boxes (kept PolyToDiffusion (omega arith));
  covers = λ a h. kept CutCover (omega arith) a a (h, refl);
}

-- ---- widths

-- of a box that was read
pub narrow_by_width : (tech : Tech) (boxes : List MaskBox) (a : ℕ) (own : MaskBox) (width least : ℤ) (b : Bool)
    → a < length boxes → own ≡ box_at boxes a → width_on tech own.layer ≡ Some width
    → least ≡ grains tech width → IsTrue b ↔ ((axis : Axis) × (extent axis own.area <ℤ least))
    → IsTrue b ↔ IsNarrow tech boxes a
narrow_by_width tech boxes a own width least b among is width_is least_is h =
    let on : width_on tech (layer_at boxes a) ≡ Some width = ap (λ (x : MaskBox). width_on tech x.layer) (sym is)
    ∙ width_is in (
      λ t. let n = h.0 t in
          let own_short : extent n.0 own.area <ℤ grains tech width =
          subst (λ (z : ℤ). extent n.0 own.area <ℤ z) least_is n.1 in
          record {
            among = among;
            width = width;
            is_width = on;
            axis = n.0;
            narrow = subst (λ (x : MaskBox). extent n.0 x.area <ℤ grains tech width) is own_short;
          },
      λ k. let some : Some k.width ≡ Some width = sym k.is_width ∙ on in
          let same : k.width ≡ width = cc in
          let there : extent k.axis (area_at boxes a) <ℤ least =
          subst (λ (z : ℤ). extent k.axis (area_at boxes a) <ℤ z) (ap (grains tech) same ∙ sym least_is)
          k.narrow in
          h.1 (k.axis, subst (λ (x : MaskBox). extent k.axis x.area <ℤ least) (sym is) there),
    )
