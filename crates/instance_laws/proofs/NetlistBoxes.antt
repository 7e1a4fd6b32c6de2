-- Boxes that show items, by number: their layers, and how they lie in grains.
use Rattle.std.proofs.Common.{◌≡◌, ℕ, ◌<◌, ℤ, pos, ◌≤ℤ◌, ◌<ℤ◌, List, length, Some, refl, sym, ap, ◌∙◌, subst, arith}
use Rattle.std.{proofs.lemmas.Int.{ints, clamps}, specs.Option.unwrap_or}
use Rattle.lam_geom.specs.declared.boxes.{BoxXY.BoxXY, MaskBox.MaskBox, MaskLayer.{MaskLayer, TheVariants.ND}}
use Rattle.lam_geom.specs.Gaps.{Touches, Overlaps, Encloses}
use Rattle.rule_table.specs.declared.technology.Tech.{Tech}
use Rattle.sym_items.specs.{declared.items.Coords.Coords, Sides.{Sides, sides_of, gap_of_sides}}
use Rattle.expand.specs.declared.master.Master.{Master}
use Rattle.buried_contacts.{specs.Contacts.common, proofs.Shares.same_sides}
use Rattle.plan_model.specs.declared.plan.Plan.{Plan}
use Rattle.mask_out.specs.Masks.{layer_drawn}
use Rattle.crossing_model.specs.Boxes.{area_at, layer_at, IsOn, IsCommon, grains}
use Rattle.instance_laws.specs.{Conductors.{InstanceItem, item_of, sides_of_drawn, gap_of_drawn}, Meetings.IsOfClass}
use Rattle.instance_laws.specs.{Meetings.EnclosesBy, Shapes.{Shows, layer_of, sides_in_grains, AreShapes}}
use Rattle.instance_laws.proofs.NetlistScale.{overlap_in_grains, overlap_from_grains, touch_in_grains}
use Rattle.instance_laws.proofs.NetlistScale.{touch_from_grains, encloses_in_grains, encloses_from_grains}
use Rattle.instance_laws.proofs.NetlistShapes.{class_of_layer, class_back, layer_there, shown, number, each_shown}
use Rattle.instance_laws.proofs.NetlistShapes.{shown_below}

-- ---- boxes by their sides

-- boxes that lie, in grains, where these lie
pub overlaps_there : (tech : Tech) (s t : BoxXY) (u v : Sides) → sides_of s ≡ sides_in_grains tech u
    → sides_of t ≡ sides_in_grains tech v → gap_of_sides u v <ℤ pos 0 → Overlaps s t
overlaps_there tech s t u v e f h =
    let in_grains = overlap_in_grains tech u v h in
    subst (λ (x : Sides). gap_of_sides x (sides_of t) <ℤ pos 0) (sym e)
    (subst (λ (y : Sides). gap_of_sides (sides_in_grains tech u) y <ℤ pos 0) (sym f) in_grains)

pub overlaps_back : (tech : Tech) (s t : BoxXY) (u v : Sides) → sides_of s ≡ sides_in_grains tech u
    → sides_of t ≡ sides_in_grains tech v → Overlaps s t → gap_of_sides u v <ℤ pos 0
overlaps_back tech s t u v e f h =
    overlap_from_grains tech u v
    (subst (λ (y : Sides). gap_of_sides (sides_in_grains tech u) y <ℤ pos 0) f
    (subst (λ (x : Sides). gap_of_sides x (sides_of t) <ℤ pos 0) e h))

pub touches_there : (tech : Tech) (s t : BoxXY) (u v : Sides) → sides_of s ≡ sides_in_grains tech u
    → sides_of t ≡ sides_in_grains tech v → gap_of_sides u v ≤ℤ pos 0 → Touches s t
touches_there tech s t u v e f h =
    let in_grains = touch_in_grains tech u v h in
    subst (λ (x : Sides). gap_of_sides x (sides_of t) ≤ℤ pos 0) (sym e)
    (subst (λ (y : Sides). gap_of_sides (sides_in_grains tech u) y ≤ℤ pos 0) (sym f) in_grains)

pub touches_back : (tech : Tech) (s t : BoxXY) (u v : Sides) → sides_of s ≡ sides_in_grains tech u
    → sides_of t ≡ sides_in_grains tech v → Touches s t → gap_of_sides u v ≤ℤ pos 0
touches_back tech s t u v e f h =
    touch_from_grains tech u v
    (subst (λ (y : Sides). gap_of_sides (sides_in_grains tech u) y ≤ℤ pos 0) f
    (subst (λ (x : Sides). gap_of_sides x (sides_of t) ≤ℤ pos 0) e h))

pub encloses_there : (tech : Tech) (s t : BoxXY) (u v : Sides) (m : ℤ) → sides_of s ≡ sides_in_grains tech u
    → sides_of t ≡ sides_in_grains tech v → EnclosesBy u v m → Encloses s t (grains tech m)
encloses_there tech s t u v m e f h =
    let in_grains = encloses_in_grains tech u v m h in
    let there : EnclosesBy (sides_of s) (sides_of t) (grains tech m) =
    subst (λ (x : Sides). EnclosesBy x (sides_of t) (grains tech m)) (sym e)
    (subst (λ (y : Sides). EnclosesBy (sides_in_grains tech u) y (grains tech m)) (sym f) in_grains) in
    ((there.left, there.right), (there.bottom, there.top))

pub encloses_back : (tech : Tech) (s t : BoxXY) (u v : Sides) (m : ℤ) → sides_of s ≡ sides_in_grains tech u
    → sides_of t ≡ sides_in_grains tech v → Encloses s t (grains tech m) → EnclosesBy u v m
encloses_back tech s t u v m e f h =
    let there : EnclosesBy (sides_of s) (sides_of t) (grains tech m) =
    record { left = h.0.0; right = h.0.1; bottom = h.1.0; top = h.1.1 } in
    encloses_from_grains tech u v m
    (subst (λ (y : Sides). EnclosesBy (sides_in_grains tech u) y (grains tech m)) f
    (subst (λ (x : Sides). EnclosesBy x (sides_of t) (grains tech m)) e there))

-- the common box, by its sides
pub common_sides : (s t c : BoxXY) → IsCommon s t c → sides_of c ≡ common (sides_of s) (sides_of t)
common_sides s t c h = same_sides (sides_of c) (common (sides_of s) (sides_of t)) h.x.lo h.x.hi h.y.lo h.y.hi

pub is_common : (s t c : BoxXY) → sides_of c ≡ common (sides_of s) (sides_of t) → IsCommon s t c
is_common s t c e = record {
  x = record { lo = ap (λ (z : Sides). z.left) e; hi = ap (λ (z : Sides). z.right) e };
  y = record { lo = ap (λ (z : Sides). z.bottom) e; hi = ap (λ (z : Sides). z.top) e };
}

-- a box with these sides
pub box_with : (s : Sides) → s.left ≤ℤ s.right → s.bottom ≤ℤ s.top → (b : BoxXY) × (sides_of b ≡ s)
box_with s h k = (
  record {
    x = record { lo = s.left; hi = s.right; ordered = h };
    y = record { lo = s.bottom; hi = s.top; ordered = k };
  },
  refl,
)

common_ordered : (s t : Sides) → gap_of_sides s t <ℤ pos 0 → s.left ≤ℤ s.right → s.bottom ≤ℤ s.top → t.left ≤ℤ t.right
    → t.bottom ≤ℤ t.top
    → ((common s t).left ≤ℤ (common s t).right) × ((common s t).bottom ≤ℤ (common s t).top)
common_ordered s t h a b c d = (omega (arith, ints, clamps, h, a, b, c, d), omega (arith, ints, clamps, h, a, b, c, d))

-- boxes that overlap have one
pub common_box : (s t : BoxXY) → Overlaps s t → (c : BoxXY) × (sides_of c ≡ common (sides_of s) (sides_of t))
common_box s t h =
    let o = common_ordered (sides_of s) (sides_of t) h s.x.ordered s.y.ordered t.x.ordered t.y.ordered in
    box_with (common (sides_of s) (sides_of t)) o.0 o.1

-- ---- boxes that show items

module _ (tech : Tech) (plan : Plan) (masters : List Master) (layouts : List Coords) (boxes : List MaskBox)
    (shapes : AreShapes tech plan masters layouts boxes) where
  pub sides_at : (k : ℕ) (a : InstanceItem) → Shows plan masters k a
      → sides_of (area_at boxes k) ≡ sides_in_grains tech (sides_of_drawn tech plan masters layouts a)
  sides_at k a h = (shapes.each k a h).sides

  pub below_count : (k : ℕ) (a : InstanceItem) → Shows plan masters k a → k < length boxes
  below_count k a h =
      let lt = shown_below plan masters k a h in
      let counted = shapes.counted in
      omega (arith, lt, counted)

  pub class_shown : (k : ℕ) (a : InstanceItem) (layer : MaskLayer) → Shows plan masters k a → layer_at boxes k ≡ layer
      → IsOfClass plan masters (class_of_layer layer) a
  class_shown k a layer h e =
      let b = shown plan masters k a h in
      let own : layer_of plan masters a ≡ layer = sym (shapes.each k a h).layer ∙ e in
      record { drawn = b.drawn; of_class = class_back (item_of plan masters a).class layer (b.layer ∙ ap Some own) }

  -- the item of a box on a layer
  pub on_item : (layer : MaskLayer) (k : ℕ) → IsOn boxes layer k
      → (a : InstanceItem) × Shows plan masters k a × IsOfClass plan masters (class_of_layer layer) a
  on_item layer k h =
      let lt = h.among in
      let counted = shapes.counted in
      let e = each_shown plan masters k (omega (arith, lt, counted)) in
      (e.0, e.1, class_shown k e.0 layer e.1 h.on)

  -- the layer of a box by its item
  pub on_layer_of : (layer : MaskLayer) (k : ℕ) (a : InstanceItem) → Shows plan masters k a
      → (item_of plan masters a).class ≡ class_of_layer layer → IsOn boxes layer k
  on_layer_of layer k a h e =
      let own : layer_drawn (item_of plan masters a).class ≡ Some layer =
      layer_there (item_of plan masters a).class layer e in
      record { among = below_count k a h; on = (shapes.each k a h).layer ∙ ap (λ z. unwrap_or z ND) own }

  -- the box of an item
  pub box_of : (layer : MaskLayer) (a : InstanceItem) → IsOfClass plan masters (class_of_layer layer) a
      → (k : ℕ) × Shows plan masters k a × IsOn boxes layer k
  box_of layer a h =
      let n = number plan masters a layer h.drawn h.of_class in
      (n.0, n.1, on_layer_of layer n.0 a n.1 h.of_class)

  pub drawn_overlap : (i j : ℕ) (a b : InstanceItem) → Shows plan masters i a → Shows plan masters j b
      → Overlaps (area_at boxes i) (area_at boxes j) → gap_of_drawn tech plan masters layouts a b <ℤ pos 0
  drawn_overlap i j a b h k lies =
      overlaps_back tech (area_at boxes i) (area_at boxes j) (sides_of_drawn tech plan masters layouts a)
      (sides_of_drawn tech plan masters layouts b) (sides_at i a h) (sides_at j b k) lies

  pub boxes_overlap : (i j : ℕ) (a b : InstanceItem) → Shows plan masters i a → Shows plan masters j b
      → gap_of_drawn tech plan masters layouts a b <ℤ pos 0 → Overlaps (area_at boxes i) (area_at boxes j)
  boxes_overlap i j a b h k lies =
      overlaps_there tech (area_at boxes i) (area_at boxes j) (sides_of_drawn tech plan masters layouts a)
      (sides_of_drawn tech plan masters layouts b) (sides_at i a h) (sides_at j b k) lies
