-- The text of finished layouts means boxes that show the items of all instances.
use Rattle.std.proofs.Common.{◌≡◌, ℕ, zero, suc, ◌<◌, ℤ, pos, negsuc, ◌+ℤ◌, ◌*ℤ◌, ◌≤ℤ◌, List, [], ◌∷◌, length, map}
use Rattle.std.proofs.{Common.{get_or, refl, sym, ap, ◌∙◌, arith}, lemmas.{Int.ints, List.{get_or-map, length-map}}}
use Rattle.std.proofs.lemmas.{List.Elements.recursion_from_All, Option.{slice_get_within, get_or_from_slice_get}}
use Rattle.std.specs.List.{AllByRecursion}
use Rattle.list_facts.proofs.Elements.{all_map, all_flat, all_weaker}
use Rattle.lam_geom.specs.declared.boxes.{MaskBox.MaskBox, Span.Span}
use Rattle.rule_table.specs.declared.technology.Tech.{Tech}
use Rattle.sym_items.specs.{declared.items.Coords.Coords, Sides.Sides}
use Rattle.expand.specs.declared.master.Master.{Master}
use Rattle.plan_model.specs.declared.plan.Plan.{Plan}
use Rattle.mask_out.specs.declared.drawing.Call.{Call}
use Rattle.mask_out.specs.{Masks.Mask, Pictures.{Drawing, no_drawing, shifted, masks_at, masks_called, flat_of}}
use Rattle.crossing_model.specs.Boxes.{no_box, box_at}
use Rattle.cif_read.specs.Files.{drawn_of}
use Rattle.cif_read.specs.Hierarchies as hierarchies
use Rattle.written_masks.specs.TextMeanings.{IsUnit, IsWritableMask, IsWritableCall, IsWritablePicture, in_grains}
use Rattle.written_masks.specs.{TextMeanings.drawn_mask, Written.unit_of}
use Rattle.instance_laws.specs.{Conductors.InstanceItem, Shapes.{shapes_of, mask_of_shape, AreShapes}}

-- ---- masks whose sides are in order

pub record IsOrdered (m : Mask) : Type 0 where
  pub x : m.sides.left ≤ℤ m.sides.right
  pub y : m.sides.bottom ≤ℤ m.sides.top

shifted_ordered : (call : Call) (m : Mask) → IsWritableMask m → IsOrdered (shifted call m)
shifted_ordered call m is =
    let wide = is.wide in
    let high = is.high in
    record { x = omega (arith, ints, wide); y = omega (arith, ints, high) }

-- all masks of a picture that can be written
flat_ordered : (unit : ℤ) (drawings : List Drawing) (calls : List Call) → IsWritablePicture unit drawings calls
    → AllByRecursion IsOrdered (flat_of drawings calls)
flat_ordered unit drawings calls is =
    all_flat IsOrdered (masks_called drawings) calls
    (all_weaker (IsWritableCall unit (length drawings))
    (λ call. AllByRecursion IsOrdered (masks_called drawings call)) (λ call one.
    let masks : List Mask = masks_at drawings call.symbol in
    all_map IsOrdered (shifted call) masks
    (all_weaker IsWritableMask (λ m. IsOrdered (shifted call m)) (shifted_ordered call) masks
    (recursion_from_All IsWritableMask masks (is.drawn call.symbol no_drawing one.symbol).masks)))
    calls (recursion_from_All (IsWritableCall unit (length drawings)) calls is.called))

-- ---- their boxes

times : (a b : ℤ) (n : ℕ) → a ≤ℤ b → (a *ℤ pos n) ≤ℤ (b *ℤ pos n)
times a b zero h = omega (arith, ints)
times a b (suc n) h =
    let rest = times a b n h in
    let first : (a *ℤ pos (suc n)) ≡ ((a *ℤ pos n) +ℤ a) = omega (arith, ints) in
    let second : (b *ℤ pos (suc n)) ≡ ((b *ℤ pos n) +ℤ b) = omega (arith, ints) in
    omega (arith, ints, rest, h, first, second)

by_positive : (a b s : ℤ) → pos 0 ≤ℤ s → a ≤ℤ b → (a *ℤ s) ≤ℤ (b *ℤ s)
by_positive a b (pos n) low h = times a b n h
by_positive a b (negsuc n) low h = absurd (omega (arith, ints, low))

grains_ordered : (unit a b : ℤ) → IsUnit unit → a ≤ℤ b → in_grains unit a ≤ℤ in_grains unit b
grains_ordered unit a b is h =
    let even = is.even in
    let least = is.least in
    by_positive a b (pos 2 *ℤ unit) (omega (arith, ints, even, least)) h

span_in_grains : (unit a b : ℤ) → IsUnit unit → a ≤ℤ b → Span
span_in_grains unit a b is h =
    record { lo = in_grains unit a; hi = in_grains unit b; ordered = grains_ordered unit a b is h }

box_of : (unit : ℤ) → IsUnit unit → (m : Mask) → IsOrdered m → MaskBox
box_of unit is m h =
    record {
      layer = m.layer;
      area = record {
        x = span_in_grains unit m.sides.left m.sides.right is h.x;
        y = span_in_grains unit m.sides.bottom m.sides.top is h.y;
      };
    }

box_drawn : (unit : ℤ) (is : IsUnit unit) (m : Mask) (h : IsOrdered m)
    → drawn_of (box_of unit is m h) ≡ drawn_mask unit m
unfolding box_of span_in_grains
box_drawn unit is m h = refl

boxes_of : (unit : ℤ) → IsUnit unit → (masks : List Mask) → AllByRecursion IsOrdered masks → List MaskBox
boxes_of unit is [] h = []
boxes_of unit is (m ∷ masks) h = box_of unit is m h.0 ∷ boxes_of unit is masks h.1

boxes_drawn : (unit : ℤ) (is : IsUnit unit) (masks : List Mask) (h : AllByRecursion IsOrdered masks)
    → map drawn_of (boxes_of unit is masks h) ≡ map (drawn_mask unit) masks
unfolding boxes_of
boxes_drawn unit is [] h = refl
boxes_drawn unit is (m ∷ masks) h =
    ap (λ (d : hierarchies.Drawn). d ∷ map drawn_of (boxes_of unit is masks h.1)) (box_drawn unit is m h.0)
    ∙ ap (λ (ds : List hierarchies.Drawn). drawn_mask unit m ∷ ds) (boxes_drawn unit is masks h.1)

-- the boxes of a picture that can be written
pub record DrawsPicture (unit : ℤ) (drawings : List Drawing) (calls : List Call) : Type 0 where
  pub boxes : List MaskBox
  pub drawn : map drawn_of boxes ≡ map (drawn_mask unit) (flat_of drawings calls)

pub picture_drawn : (unit : ℤ) (drawings : List Drawing) (calls : List Call) → IsWritablePicture unit drawings calls
    → DrawsPicture unit drawings calls
picture_drawn unit drawings calls is =
    let ordered = flat_ordered unit drawings calls is in
    record {
      boxes = boxes_of unit is.is_unit (flat_of drawings calls) ordered;
      drawn = boxes_drawn unit is.is_unit (flat_of drawings calls) ordered;
    }

-- ---- what they show

abbrev sides_of_drawn_box : hierarchies.Drawn → Sides
sides_of_drawn_box d = record { left = d.left; right = d.right; bottom = d.bottom; top = d.top }

pub boxes_show : (tech : Tech) (plan : Plan) (masters : List Master) (layouts : List Coords) (boxes : List MaskBox)
    → map drawn_of boxes ≡ map (drawn_mask (unit_of tech))
    (map (mask_of_shape tech plan masters layouts) (shapes_of plan masters))
    → AreShapes tech plan masters layouts boxes
boxes_show tech plan masters layouts boxes drawn =
    let shapes : List InstanceItem = shapes_of plan masters in
    let shape : InstanceItem → Mask = mask_of_shape tech plan masters layouts in
    let grain : Mask → hierarchies.Drawn = drawn_mask (unit_of tech) in
    let counted : length boxes ≡ length shapes =
    sym (length-map boxes drawn_of)
    ∙ (ap length drawn ∙ (length-map (map shape shapes) grain ∙ length-map shapes shape)) in
    record {
      counted = counted;
      each = λ k a shown. (
          let among : k < length shapes = slice_get_within shapes k a shown in
          let few : k < length (map shape shapes) = omega (arith, length-map shapes shape, among) in
          let own : get_or shapes k a ≡ a = get_or_from_slice_get shapes k a a shown in
          let here : drawn_of (box_at boxes k) ≡ grain (shape a) =
          sym (get_or-map drawn_of boxes k no_box (drawn_of no_box) (omega (arith, counted, among)))
          ∙ (ap (λ (ds : List hierarchies.Drawn). get_or ds k (drawn_of no_box)) drawn
          ∙ (get_or-map grain (map shape shapes) k (shape a) (drawn_of no_box) few
          ∙ (ap grain (get_or-map shape shapes k a (shape a) among) ∙ ap (λ b. grain (shape b)) own))) in
          record { layer = ap (λ (d : hierarchies.Drawn). d.layer) here; sides = ap sides_of_drawn_box here });
    }
