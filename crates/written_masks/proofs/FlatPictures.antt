-- The boxes that are meant, one by one, are those of the picture.
use Rattle.std.proofs.Common.{◌≡◌, ℕ, ◌≤ℤ◌, All, get_or, ℤ, pos, ◌*ℤ◌, List, [], ◌∷◌, ◌++◌, map, flat_map, length, refl}
use Rattle.std.proofs.{Common.{sym, ap, ◌∙◌, arith}, lemmas.{Int.ints, List.{map-append, Elements.recursion_from_All}}}
use Rattle.std.{proofs.lemmas.List.FromFn.get_or-map-range_with_len, specs.List.{AllByRecursion, range_with_len}}
use Rattle.cif_lex.specs.declared.placement.Placement.{Placement}
use Rattle.lam_geom.specs.declared.boxes.MaskLayer.{MaskLayer}
use Rattle.mask_out.specs.declared.drawing.Call as drawn
use Rattle.mask_out.specs.{Masks.Mask, Pictures.{Drawing, no_drawing, shifted, masks_at, masks_called, flat_of}}
use Rattle.cif_read.specs.Hierarchies.{Drawn, Step, moved, placed_box, boxes_of_step, boxes_of_steps, flattened}
use Rattle.cif_read.proofs.Flat.{IsSorted, moved_same, built_boxes}
use Rattle.instance_laws.proofs.NetlistScale.{scaled}
use Rattle.written_masks.specs.TextMeanings.{IsUnit, IsWritableMask, IsWritableDrawing, in_grains, drawn_mask}
use Rattle.written_masks.specs.TextMeanings.{symbol_at, step_of_call, IsWritableCall, IsWritablePicture}
use Rattle.written_masks.{specs.TextMeanings.hierarchy_of_picture, proofs.Numbers.moved_side}

same_sides : (layer : MaskLayer) (a b c d e f g h : ℤ) → a ≡ e → b ≡ f → c ≡ g → d ≡ h
    → (let x : Drawn = record { layer = layer; left = a; right = b; bottom = c; top = d } in x)
    ≡ (record { layer = layer; left = e; right = f; bottom = g; top = h })
same_sides layer a b c d e f g h p q r s = cc

-- moved in grains is shifted in u
moved_mask : (unit : ℤ) (call : drawn.Call) (m : Mask)
    → moved (in_grains unit call.x) (in_grains unit call.y) (drawn_mask unit m) ≡ drawn_mask unit (shifted call m)
moved_mask unit call m =
    let u : ℤ = pos 2 *ℤ unit in
    same_sides m.layer _ _ _ _ _ _ _ _ (moved_side m.sides.left call.x u) (moved_side m.sides.right call.x u)
    (moved_side m.sides.bottom call.y u) (moved_side m.sides.top call.y u)

-- a mask that can be written stays in its order
sorted_mask : (unit : ℤ) (m : Mask) → IsUnit unit → IsWritableMask m → IsSorted (drawn_mask unit m)
sorted_mask unit m is writable =
    let least = is.least in
    let u : ℤ = pos 2 *ℤ unit in
    let some : pos 1 ≤ℤ u = omega (arith, ints, is.even, least) in
    let wide = writable.wide in
    let high = writable.high in (
      scaled u m.sides.left m.sides.right some (omega (arith, ints, wide)),
      scaled u m.sides.bottom m.sides.top some
          (omega (arith, ints, high)),
    )

abbrev place_of_call : ℤ → drawn.Call → Placement
place_of_call unit call = record { turn = 0; x = in_grains unit call.x; y = in_grains unit call.y }

moved_masks : (unit : ℤ) → IsUnit unit → (call : drawn.Call) (masks : List Mask) → AllByRecursion IsWritableMask masks
    → map (placed_box (place_of_call unit call)) (map (drawn_mask unit) masks)
    ≡ map (drawn_mask unit) (map (shifted call) masks)
moved_masks unit is call [] h = refl
moved_masks unit is call (m ∷ masks) h =
    let one = moved_same (in_grains unit call.x) (in_grains unit call.y) (drawn_mask unit m)
    (sorted_mask unit m is h.0) ∙ moved_mask unit call m in
    let more = moved_masks unit is call masks h.1 in
    ap (λ (d : Drawn). d ∷ map (placed_box (place_of_call unit call)) (map (drawn_mask unit) masks)) one
    ∙ ap (λ (ds : List Drawn). drawn_mask unit (shifted call m) ∷ ds) more

-- the boxes of each symbol
abbrev boxes_at : ℤ → List Drawing → ℕ → List Drawn
boxes_at unit drawings k = map (drawn_mask unit) (masks_at drawings k)

abbrev all_boxes_at : ℤ → List Drawing → List (List Drawn)
all_boxes_at unit drawings = map (boxes_at unit drawings) (range_with_len 0 (length drawings))

call_boxes : (unit : ℤ) → IsUnit unit → (drawings : List Drawing) (call : drawn.Call) → All IsWritableDrawing drawings
    → IsWritableCall unit (length drawings) call
    → boxes_of_step (all_boxes_at unit drawings) (step_of_call unit call)
    ≡ map (drawn_mask unit) (masks_called drawings call)
call_boxes unit is_unit drawings call writable is =
    let masks = masks_at drawings call.symbol in
    let here : IsWritableDrawing (get_or drawings call.symbol no_drawing) = writable call.symbol no_drawing is.symbol in
    ap (map (placed_box (place_of_call unit call)))
    (get_or-map-range_with_len (boxes_at unit drawings) 0 (length drawings) call.symbol call.symbol [] is.symbol
    (omega arith))
    ∙ moved_masks unit is_unit call masks (recursion_from_All IsWritableMask masks here.masks)

all_boxes : (unit : ℤ) → IsUnit unit → (drawings : List Drawing) (calls : List drawn.Call)
    → All IsWritableDrawing drawings → AllByRecursion (IsWritableCall unit (length drawings)) calls
    → boxes_of_steps (all_boxes_at unit drawings) (map (step_of_call unit) calls)
    ≡ map (drawn_mask unit) (flat_map (masks_called drawings) calls)
all_boxes unit is drawings [] writable h = refl
all_boxes unit is drawings (call ∷ calls) writable h =
    let rest : List Drawn = boxes_of_steps (all_boxes_at unit drawings) (map (step_of_call unit) calls) in
    let own : List Mask = masks_called drawings call in
    ap (λ (ds : List Drawn). ds ++ rest) (call_boxes unit is drawings call writable h.0)
    ∙ (ap (λ (ds : List Drawn). map (drawn_mask unit) own ++ ds) (all_boxes unit is drawings calls writable h.1)
    ∙ sym (map-append (drawn_mask unit) own (flat_map (masks_called drawings) calls)))

pub flat_picture : (unit : ℤ) (drawings : List Drawing) (calls : List drawn.Call)
    → IsWritablePicture unit drawings calls
    → flattened (hierarchy_of_picture unit drawings calls) ≡ map (drawn_mask unit) (flat_of drawings calls)
flat_picture unit drawings calls is =
    let steps : List Step = map (step_of_call unit) calls in
    ap (λ (bs : List (List Drawn)). boxes_of_steps bs steps)
    (built_boxes (symbol_at unit drawings) (boxes_at unit drawings) (λ k. refl) []
    (range_with_len 0 (length drawings)))
    ∙ all_boxes unit is.is_unit drawings calls is.drawn
    (recursion_from_All (IsWritableCall unit (length drawings)) calls is.called)
