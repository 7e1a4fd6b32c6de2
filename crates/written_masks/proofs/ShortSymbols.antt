-- The text of a symbol is short where its name is short and its boxes are few.
use Rattle.std.proofs.Common.{◌≡◌, ℕ, ◌+◌, ◌*◌, ◌≤◌, ℤ, pos, int_div, All, List, [], ◌∷◌, ◌++◌, length, flat_map, sym}
use Rattle.std.proofs.{Common.{ap, ◌∙◌, subst, arith, codes}, lemmas.{Int.ints, List.Concat.length-flat_map}}
use Rattle.std.{proofs.lemmas.List.Elements.{All-filter, recursion_from_All}, specs.List.{AllByRecursion, sum_by}}
use Rattle.list_facts.proofs.Elements.{all_weaker}
use Rattle.lam_geom.specs.declared.boxes.MaskLayer.{MaskLayer, TheVariants.{ND, NP, NC, NM, NI, NB}}
use Rattle.mask_out.specs.{Masks.{Mask, is_same_layer, mask_layers}, Pictures.Drawing}
use Rattle.cif_text.specs.Cif.{box_text, layer_name, layer_text, layers_text, scale_line, symbol_text}
use Rattle.written_masks.specs.TextMeanings.{IsNumber, IsUnit, IsWritableMask, IsWritableDrawing}
use Rattle.written_masks.proofs.{Commands.on_layer, Numbers.half_of, PictureLines.all_every, Sums.pieces_short}
use Rattle.written_masks.proofs.{Sums.{sum_of_parts, sum_ones}, ShortLines.{after, box_line_short, scale_line_short}}

-- ---- boxes

box_short : (m : Mask) → IsWritableMask m → length (box_text m) ≤ 51
box_short m is = box_line_short _ _ _ _ is.width is.height is.x is.y

boxes_short : (masks : List Mask) → AllByRecursion IsWritableMask masks
    → length (flat_map box_text masks) ≤ length masks * 51
boxes_short masks h =
    let all = pieces_short box_text (λ m. 0 + 1 * 51) masks
    (all_weaker IsWritableMask (λ m. length (box_text m) ≤ 51) box_short masks h) in
    let sums = sum_of_parts (λ (m : Mask). 1) 0 51 masks in
    let ones = sum_ones masks in
    omega (arith, all, sums, ones)

-- ---- layers

two_letters : (layer : MaskLayer) → length (layer_name layer) ≤ 2
two_letters ND = omega arith
two_letters NP = omega arith
two_letters NC = omega arith
two_letters NM = omega arith
two_letters NI = omega arith
two_letters NB = omega arith

layer_short : (layer : MaskLayer) (masks : List Mask) → AllByRecursion IsWritableMask masks
    → length (layer_text layer masks) ≤ 6 + length masks * 51
layer_short layer [] h = omega arith
layer_short layer (m ∷ masks) h =
    let boxes : List ℕ = flat_map box_text (m ∷ masks) in
    let line : length (layer_text layer (m ∷ masks)) ≤ 2 + (2 + (2 + length (m ∷ masks) * 51)) =
    after (codes "L ") _ 2 _ (omega arith)
    (after (layer_name layer) _ 2 _ (two_letters layer)
    (after (codes ";\n") boxes 2 _ (omega arith) (boxes_short (m ∷ masks) h))) in
    omega (arith, line)

-- each mask is on one layer
layers_short : (masks : List Mask) → All IsWritableMask masks → masks ≡ flat_map (on_layer masks) mask_layers
    → length (layers_text masks) ≤ 36 + length masks * 51
layers_short masks h by_layer =
    let text : MaskLayer → List ℕ = λ layer. layer_text layer (on_layer masks layer) in
    let kept : MaskLayer → ℕ = λ layer. length (on_layer masks layer) in
    let all : length (layers_text masks) ≤ sum_by (λ layer. 6 + kept layer * 51) mask_layers =
    pieces_short text (λ layer. 6 + kept layer * 51) mask_layers
    (all_every (λ layer. length (text layer) ≤ 6 + kept layer * 51)
    (λ layer. layer_short layer (on_layer masks layer)
    (recursion_from_All IsWritableMask (on_layer masks layer)
    (All-filter (λ (m : Mask). is_same_layer layer m.layer) IsWritableMask masks h))) mask_layers) in
    let sums : sum_by (λ layer. 6 + kept layer * 51) mask_layers ≡ 36 + sum_by kept mask_layers * 51 =
    sum_of_parts kept 6 51 mask_layers in
    let counted : length masks ≡ sum_by kept mask_layers = ap length by_layer
    ∙ length-flat_map (on_layer masks) mask_layers in
    let times : length masks * 51 ≡ sum_by kept mask_layers * 51 = ap (λ n. n * 51) counted in
    omega (arith, all, sums, times)

-- ---- symbols

half_number : (unit : ℤ) → IsUnit unit → IsNumber (int_div unit (pos 2))
half_number unit is =
    let low = is.least in
    let high = is.greatest in
    let half : IsNumber is.half = (omega (arith, ints), omega (arith, ints)) in
    subst IsNumber (sym (half_of unit is.half is.even is.least)) half

pub symbol_short : (number : ℕ) (unit : ℤ) (drawing : Drawing) → number ≤ 256 → IsUnit unit
    → IsWritableDrawing drawing → length drawing.name ≤ 65000
    → length (symbol_text number unit drawing.name drawing.masks) ≤ 65066 + length drawing.masks * 51
unfolding symbol_text
symbol_short number unit drawing few is writable short =
    let layers : List ℕ = layers_text drawing.masks in
    let all : length
    (scale_line number unit ++ (codes "9 " ++ (drawing.name ++ (codes ";\n" ++ (layers ++ codes "DF;\n"))))) ≤ 22
    + (2 + (65000 + (2 + ((36 + length drawing.masks * 51) + 4)))) =
    after (scale_line number unit) _ 22 _ (scale_line_short number unit few (half_number unit is))
    (after (codes "9 ") _ 2 _ (omega arith) (after drawing.name _ 65000 _ short (after (codes ";\n") _ 2 _ (omega arith)
    (after layers (codes "DF;\n") _ 4 (layers_short drawing.masks writable.masks writable.by_layer) (omega arith))))) in
    omega (arith, all)
