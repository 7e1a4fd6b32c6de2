-- What is said of items in u, of the boxes that show them in grains: widths, cuts and what covers them, poly off
-- diffusion, and cuts apart.
use Rattle.std.proofs.Common.{◌≡◌, ℕ, ℤ, pos, ◌-ℤ◌, ◌*ℤ◌, ◌≤ℤ◌, ◌<ℤ◌, List, refl, sym, ap, ◌∙◌, subst, arith, inl, inr}
use Rattle.std.proofs.lemmas.Int.{ints}
use Rattle.lam_geom.specs.declared.boxes.{Axis.{Axis, TheVariants.{X, Y}}, BoxXY.BoxXY, MaskBox.MaskBox}
use Rattle.lam_geom.specs.declared.boxes.MaskLayer.{MaskLayer, TheVariants.{ND, NP, NC, NM, NI, NB}}
use Rattle.lam_geom.specs.Gaps.{gap_of_boxes, Overlaps}
use Rattle.rule_table.specs.{declared.technology.Tech.Tech, Technology.numbers_of}
use Rattle.sym_items.specs.{declared.items.Coords.Coords, Sides.{Sides, sides_of, gap_of_sides}}
use Rattle.expand.specs.declared.master.Master.{Master}
use Rattle.plan_model.specs.declared.plan.Plan.{Plan}
use Rattle.instance_laws.proofs.NetlistScale.{scaled, scale_positive, gap_in_grains, length_in_grains}
use Rattle.instance_laws.proofs.NetlistShapes.{class_of_layer, each_shown, one_number}
use Rattle.instance_laws.proofs.NetlistBoxes.{encloses_there, sides_at, class_shown, on_item, box_of, boxes_overlap}
use Rattle.instance_laws.specs.Conductors.{InstanceItem, sides_of_drawn, gap_of_drawn}
use Rattle.instance_laws.specs.Shapes.{Shows, sides_in_grains, AreShapes}
use Rattle.crossing_model.specs.Boxes.{area_at, layer_at, IsOn, extent, grains, IsCovered}
use Rattle.rule_breaks.specs.Breaks.{width_on, IsNarrow, IsOddCut, IsUncovered, ArePairOf, IsPolyTooNear}
use Rattle.rule_breaks.{specs.Breaks.AreCutsTooNear, proofs.Turned.poly_turned}
use Rattle.masks_meet_rules.specs.Items.{width_of_class, ConductorsAreWide, CutsAreSquare, IsCoveredBy, CutsAreCovered}
use Rattle.masks_meet_rules.specs.Items.{PolyKeepsOff, CutsKeepOff}

-- ---- lengths and gaps

-- boxes that lie, in grains, where these lie, are as far apart
pub far_there : (tech : Tech) (s t : BoxXY) (u v : Sides) → sides_of s ≡ sides_in_grains tech u
    → sides_of t ≡ sides_in_grains tech v → (n : ℤ) → n ≤ℤ gap_of_sides u v → grains tech n ≤ℤ gap_of_boxes s t
far_there tech s t u v e f n h =
    let in_grains : grains tech n ≤ℤ gap_of_sides (sides_in_grains tech u) (sides_in_grains tech v) =
    subst (λ (z : ℤ). grains tech n ≤ℤ z) (sym (gap_in_grains tech u v))
    (scaled (pos 2 *ℤ (numbers_of tech).unit) n (gap_of_sides u v) (scale_positive tech) h) in
    subst (λ (x : Sides). grains tech n ≤ℤ gap_of_sides x (sides_of t)) (sym e)
    (subst (λ (y : Sides). grains tech n ≤ℤ gap_of_sides (sides_in_grains tech u) y) (sym f) in_grains)

-- so they are not nearer
pub not_nearer : (tech : Tech) (s t : BoxXY) (u v : Sides) → sides_of s ≡ sides_in_grains tech u
    → sides_of t ≡ sides_in_grains tech v → (n : ℤ) → n ≤ℤ gap_of_sides u v → gap_of_boxes s t <ℤ grains tech n → ⊥
not_nearer tech s t u v e f n h near = (let far = far_there tech s t u v e f n h in omega (arith, ints, far, near))

-- the width of a layer is that of the class of its items
same_width : (tech : Tech) (layer : MaskLayer) → width_of_class tech (class_of_layer layer) ≡ width_on tech layer
same_width tech ND = refl
same_width tech layer = refl

-- how long a box is on an axis in grains
long_there : (tech : Tech) (s : BoxXY) (u : Sides) → sides_of s ≡ sides_in_grains tech u
    → (extent X s ≡ grains tech (u.right -ℤ u.left)) × (extent Y s ≡ grains tech (u.top -ℤ u.bottom))
long_there tech s u e = (
  ap (λ (z : Sides). z.right -ℤ z.left) e ∙ length_in_grains tech u.right u.left (u.right -ℤ u.left) refl,
  ap (λ (z : Sides). z.top -ℤ z.bottom) e ∙ length_in_grains tech u.top u.bottom (u.top -ℤ u.bottom) refl,
)

module _ (tech : Tech) (plan : Plan) (masters : List Master) (layouts : List Coords) (boxes : List MaskBox)
    (shapes : AreShapes tech plan masters layouts boxes) where
  abbrev Lies : InstanceItem → Sides
  Lies a = sides_of_drawn tech plan masters layouts a

  there : (k : ℕ) (a : InstanceItem) → Shows plan masters k a
      → sides_of (area_at boxes k) ≡ sides_in_grains tech (Lies a)
  there k a h = sides_at tech plan masters layouts boxes shapes k a h

  -- ---- single boxes

  long_enough : (w n e : ℤ) → w ≤ℤ n → e ≡ grains tech n → e <ℤ grains tech w → ⊥
  long_enough w n e h is narrow =
      (let more = scaled (pos 2 *ℤ (numbers_of tech).unit) w n (scale_positive tech) h in
      omega (arith, ints, more, is, narrow))

  pub none_narrow : ConductorsAreWide tech plan masters layouts → (a : ℕ) → IsNarrow tech boxes a → ⊥
  none_narrow wide a h =
      let layer : MaskLayer = layer_at boxes a in
      let lt = h.among in
      let counted = shapes.counted in
      let shown = each_shown plan masters a (omega (arith, lt, counted)) in
      let d : InstanceItem = shown.0 in
      let is = class_shown tech plan masters layouts boxes shapes a d layer shown.1 refl in
      let own = wide (class_of_layer layer) d h.width is (same_width tech layer ∙ h.is_width) in
      let long = long_there tech (area_at boxes a) (Lies d) (there a d shown.1) in
      along h.axis h.narrow long.0 long.1 own.across own.up
    where
      along : (axis : Axis) → extent axis (area_at boxes a) <ℤ grains tech h.width → {n m : ℤ}
          → extent X (area_at boxes a) ≡ grains tech n → extent Y (area_at boxes a) ≡ grains tech m → h.width ≤ℤ n
          → h.width ≤ℤ m → ⊥
      along X narrow e f x y = long_enough h.width _ _ x e narrow
      along Y narrow e f x y = long_enough h.width _ _ y f narrow

  pub none_odd : CutsAreSquare tech plan masters layouts → (a : ℕ) → IsOddCut tech boxes a → ⊥
  none_odd square a h =
      let shown = on_item tech plan masters layouts boxes shapes NC a h.is_cut in
      let own = square shown.0 shown.2 in
      let long = long_there tech (area_at boxes a) (Lies shown.0) (there a shown.0 shown.1) in
      h.odd (long.0 ∙ ap (grains tech) own.across, long.1 ∙ ap (grains tech) own.up)

  covered : (layer : MaskLayer) (a : ℕ) (cut : InstanceItem) → Shows plan masters a cut
      → IsCoveredBy tech plan masters layouts (class_of_layer layer) cut
      → IsCovered boxes layer (area_at boxes a) (grains tech (numbers_of tech).cut_enclosure)
  covered layer a cut shown h =
      let box = box_of tech plan masters layouts boxes shapes layer h.cover h.of_class in
      record {
        cover = box.0;
        is_on = box.2;
        covers = encloses_there tech (area_at boxes box.0) (area_at boxes a) (Lies h.cover) (Lies cut)
            (numbers_of tech).cut_enclosure (there box.0 h.cover box.1) (there a cut shown) h.covers;
      }

  pub none_uncovered : CutsAreCovered tech plan masters layouts → (a : ℕ) → IsUncovered tech boxes a → ⊥
  none_uncovered cuts a h =
      let shown = on_item tech plan masters layouts boxes shapes NC a h.is_cut in
      let own = cuts shown.0 shown.2 in
      elim h.uncovered [
        | inl no_metal ↦ no_metal (covered NM a shown.0 shown.1 own.0)
        | inr no_lower ↦ elim own.1 [
          | inl poly ↦ no_lower (inl (covered NP a shown.0 shown.1 poly))
          | inr diffusion ↦ no_lower (inr (covered ND a shown.0 shown.1 diffusion))
        ]
      ]

  -- ---- pairs of boxes

  far_boxes : (i j : ℕ) (a b : InstanceItem) → Shows plan masters i a → Shows plan masters j b → (n : ℤ)
      → n ≤ℤ gap_of_drawn tech plan masters layouts a b
      → gap_of_boxes (area_at boxes i) (area_at boxes j) <ℤ grains tech n → ⊥
  far_boxes i j a b h k n far near =
      not_nearer tech (area_at boxes i) (area_at boxes j) (Lies a) (Lies b) (there i a h) (there j b k) n far near

  -- poly and diffusion in this order
  poly_off : PolyKeepsOff tech plan masters layouts → (p d : ℕ) → IsOn boxes NP p → IsOn boxes ND d
      → (Overlaps (area_at boxes p) (area_at boxes d) → ⊥)
      → gap_of_boxes (area_at boxes p) (area_at boxes d) <ℤ grains tech (numbers_of tech).spacing_poly_diffusion → ⊥
  poly_off keeps p d on_p on_d apart near =
      let poly = on_item tech plan masters layouts boxes shapes NP p on_p in
      let diffusion = on_item tech plan masters layouts boxes shapes ND d on_d in
      elim (keeps poly.0 diffusion.0 poly.2 diffusion.2) [
        | inl lies ↦
            apart (boxes_overlap tech plan masters layouts boxes shapes p d poly.0 diffusion.0 poly.1 diffusion.1
            lies)
        | inr far ↦ far_boxes p d poly.0 diffusion.0 poly.1 diffusion.1 _ far near
      ]

  pub poly_keeps_off : PolyKeepsOff tech plan masters layouts → (a b : ℕ) → IsPolyTooNear tech boxes a b → ⊥
  poly_keeps_off keeps a b h = by h.on.pair
    where
      by : ArePairOf a b h.on.p h.on.q → ⊥
      by (inl (e, f)) = poly_off keeps a b (subst (IsOn boxes NP) (sym e) h.on.first)
          (subst (IsOn boxes ND) (sym f) h.on.second) h.apart h.near
      by (inr (e, f)) =
          let turned = poly_turned tech boxes a b h in
          poly_off keeps b a (subst (IsOn boxes NP) (sym f) h.on.first) (subst (IsOn boxes ND) (sym e) h.on.second)
          turned.apart turned.near

  pub cuts_keep_off : CutsKeepOff tech plan masters layouts → (a b : ℕ) → (a ≡ b → ⊥) → AreCutsTooNear tech boxes a b
      → ⊥
  cuts_keep_off keeps a b differ h =
      let c = on_item tech plan masters layouts boxes shapes NC a h.first in
      let d = on_item tech plan masters layouts boxes shapes NC b h.second in
      let far =
      keeps c.0 d.0 c.2 d.2
      (λ same. differ (one_number plan masters a b c.0 c.1 (subst (Shows plan masters b) (sym same) d.1))) in
      far_boxes a b c.0 d.0 c.1 d.1 (numbers_of tech).spacing_cut far h.near
