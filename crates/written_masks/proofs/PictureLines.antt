-- The text of a picture is lines of its commands, and after them the end.
use Rattle.std.proofs.Common.{◌≡◌, ◌≢◌, ℕ, ◌+◌, ◌^◌, ◌<◌, ◌≤◌, ℤ, pos, ◌*ℤ◌, int_div, List, [], ◌∷◌, ◌++◌, length, map}
use Rattle.std.proofs.Common.{flat_map, get_or, refl, sym, ap, ◌∙◌, subst, append_assoc, append-nil, arith, codes, All}
use Rattle.std.proofs.{Common.decimal, lemmas.{Int.ints, List.{Concat.flat_map-append, Folds.flat_map-map}}}
use Rattle.std.proofs.lemmas.List.Elements.{All-filter, recursion_from_All}
use Rattle.std.specs.{Fmt.signed_decimal, List.{AllByRecursion, range_with_len}}
use Rattle.list_facts.proofs.Elements.{all_weaker, all_numbers}
use Rattle.lam_geom.specs.declared.boxes.MaskLayer.{MaskLayer}
use Rattle.mask_out.specs.declared.drawing.Call as drawn
use Rattle.mask_out.specs.{Masks.{Mask, is_same_layer, mask_layers}, Pictures.{Drawing, no_drawing}}
use Rattle.cif_lex.specs.declared.command.Command.TheVariants.{Define, Finish}
use Rattle.cif_text.specs.Cif.{box_text, layer_name, layer_text, layers_text, scale_line, symbol_text}
use Rattle.cif_text.specs.Calls.{call_text, text_at, texts_of, cif_of}
use Rattle.written_masks.specs.TextMeanings.{IsNumber, IsUnit, IsWritableMask, IsWritableDrawing, IsWritableCall}
use Rattle.written_masks.specs.TextMeanings.{IsWritablePicture}
use Rattle.written_masks.proofs.{Numbers.half_of, CommandLines.{IsLineOf, box_is_line, call_is_line, layer_is_line}}
use Rattle.written_masks.proofs.{CommandLines.{define_is_line, finish_is_line, extension_is_line}, TextLines.AreLines}
use Rattle.written_masks.proofs.{TextLines.{one_line, lines_append, flat_lines, each_line}, Commands.box_command}
use Rattle.written_masks.proofs.Commands.{layer_commands, on_layer, layers_commands, symbol_commands, commands_at}
use Rattle.written_masks.proofs.Commands.{symbols_commands, call_command, picture_commands}

pub all_every : {X : Type 0} (P : X → Type 0) → ((x : X) → P x) → (xs : List X) → AllByRecursion P xs
all_every P h [] = tt
all_every P h (x ∷ xs) = (h x, all_every P h xs)

-- ---- a symbol

box_line_of : (m : Mask) → IsWritableMask m → IsLineOf (box_command m) (box_text m)
box_line_of m is = box_is_line _ _ _ _ is.width is.height is.x is.y

boxes_lines : (masks : List Mask) → AllByRecursion IsWritableMask masks
    → AreLines (map box_command masks) (flat_map box_text masks)
boxes_lines masks h =
    each_line box_command box_text masks
    (all_weaker IsWritableMask (λ m. IsLineOf (box_command m) (box_text m)) box_line_of masks h)

layer_lines : (layer : MaskLayer) (masks : List Mask) → AllByRecursion IsWritableMask masks
    → AreLines (layer_commands layer masks) (layer_text layer masks)
layer_lines layer [] h = refl
layer_lines layer (m ∷ masks) h =
    let boxes : List ℕ = flat_map box_text (m ∷ masks) in
    let together : (codes "L " ++ (layer_name layer ++ codes ";\n")) ++ boxes ≡ codes "L "
    ++ (layer_name layer ++ (codes ";\n" ++ boxes)) =
    ap (λ (t : List ℕ). codes "L " ++ t) (append_assoc (layer_name layer) (codes ";\n") boxes) in (
      codes "L " ++ (layer_name layer ++ codes ";\n"),
      boxes,
      sym together,
      layer_is_line layer,
      boxes_lines
          (m ∷ masks) h,
    )

layers_lines : (masks : List Mask) → All IsWritableMask masks
    → AreLines (layers_commands masks mask_layers) (layers_text masks)
layers_lines masks h =
    flat_lines (λ layer. layer_commands layer (on_layer masks layer))
    (λ layer. layer_text layer (on_layer masks layer)) mask_layers
    (all_every
    (λ layer. AreLines (layer_commands layer (on_layer masks layer)) (layer_text layer (on_layer masks layer)))
    (λ layer. layer_lines layer (on_layer masks layer)
    (recursion_from_All IsWritableMask (on_layer masks layer)
    (All-filter (λ (m : Mask). is_same_layer layer m.layer) IsWritableMask masks h))) mask_layers)

half_number : (unit : ℤ) (is : IsUnit unit) → IsNumber is.half
half_number unit is = let low = is.least in let high = is.greatest in (omega (arith, ints), omega (arith, ints))

symbol_lines : (number : ℕ) (unit : ℤ) (is : IsUnit unit) (name : List ℕ) (masks : List Mask) → number ≤ 2 ^ 30
    → All (λ b. b ≢ 59) name → All IsWritableMask masks
    → AreLines (symbol_commands number is.half masks) (symbol_text number unit name masks)
unfolding symbol_text
symbol_lines number unit is name masks small named h =
    let half : int_div unit (pos 2) ≡ is.half = half_of unit is.half is.even is.least in
    let scale : IsLineOf (Define (pos number) is.half (pos 1)) (scale_line number unit) =
    subst (λ (z : ℤ). IsLineOf (Define (pos number) is.half (pos 1))
    (codes "DS " ++ (decimal number ++ (codes " " ++ (signed_decimal z ++ codes " 1;\n"))))) (sym
    half) (define_is_line number is.half small (half_number unit is)) in
    let rest : List ℕ = layers_text masks ++ codes "DF;\n" in
    let drawn : AreLines (layers_commands masks mask_layers ++ (Finish ∷ [])) rest =
    lines_append (layers_commands masks mask_layers) (Finish ∷ []) (layers_text masks) (codes "DF;\n")
    (layers_lines masks h) (one_line Finish (codes "DF;\n") finish_is_line) in
    let together : (codes "9 " ++ (name ++ codes ";\n")) ++ rest ≡ codes "9 " ++ (name ++ (codes ";\n" ++ rest)) =
    ap (λ (t : List ℕ). codes "9 " ++ t) (append_assoc name (codes ";\n") rest) in (
      scale_line number unit,
      codes "9 " ++ (name ++ (codes ";\n" ++ rest)),
      refl,
      scale,
      (codes "9 " ++ (name ++ codes ";\n"), rest, sym together, extension_is_line name named, drawn),
    )

-- ---- all symbols, and the calls

symbols_lines : (unit : ℤ) (is : IsUnit unit) (drawings : List Drawing) → length drawings < 2 ^ 30
    → All IsWritableDrawing drawings
    → AreLines (symbols_commands is.half drawings)
    (flat_map (text_at unit drawings) (range_with_len 0 (length drawings)))
symbols_lines unit is drawings few h =
    flat_lines (commands_at is.half drawings) (text_at unit drawings) (range_with_len 0 (length drawings))
    (all_numbers (λ k. AreLines (commands_at is.half drawings k) (text_at unit drawings k)) 0 (length drawings)
    (λ k low lt.
    let here : IsWritableDrawing (get_or drawings k no_drawing) = h k no_drawing (omega (arith, lt)) in
    symbol_lines (k + 1) unit is (get_or drawings k no_drawing).name (get_or drawings k no_drawing).masks
    (omega (arith, lt, few)) here.named here.masks))

call_line_of : (unit : ℤ) (count : ℕ) → count < 2 ^ 30 → (call : drawn.Call) → IsWritableCall unit count call
    → IsLineOf (call_command unit call) (call_text unit call)
call_line_of unit count few call is =
    call_is_line (call.symbol + 1) (call.x *ℤ unit) (call.y *ℤ unit) (let lt = is.symbol in omega (arith, lt, few))
    is.x is.y

calls_lines : (unit : ℤ) (count : ℕ) (calls : List drawn.Call) → count < 2 ^ 30
    → All (IsWritableCall unit count) calls
    → AreLines (map (call_command unit) calls) (flat_map (call_text unit) calls)
calls_lines unit count calls few h =
    each_line (call_command unit) (call_text unit) calls
    (all_weaker (IsWritableCall unit count) (λ call. IsLineOf (call_command unit call) (call_text unit call))
    (call_line_of unit count few) calls (recursion_from_All (IsWritableCall unit count) calls h))

-- ---- the whole text

pub record IsWrittenText (unit half : ℤ) (drawings : List Drawing) (calls : List drawn.Call) : Type 0 where
  pub lines : List ℕ
  pub are_lines : AreLines (picture_commands unit half drawings calls) lines
  pub whole : cif_of unit drawings calls ≡ lines ++ codes "E\n"

pub picture_lines : (unit : ℤ) (drawings : List Drawing) (calls : List drawn.Call)
    (is : IsWritablePicture unit drawings calls) → IsWrittenText unit is.is_unit.half drawings calls
picture_lines unit drawings calls is =
    let own : List ℕ = flat_map (text_at unit drawings) (range_with_len 0 (length drawings)) in
    let placed : List ℕ = flat_map (call_text unit) calls in
    let end : List ℕ = codes "E\n" in
    record {
      lines = own ++ placed;
      are_lines = lines_append (symbols_commands is.is_unit.half drawings) (map (call_command unit) calls) own placed
          (symbols_lines unit is.is_unit drawings is.few is.drawn)
          (calls_lines unit (length drawings) calls is.few is.called);
      whole =
          flat_map-append (λ (t : List ℕ). t) (texts_of unit drawings) ((placed ++ end) ∷ [])
          ∙ (ap (λ (t : List ℕ). t ++ ((placed ++ end) ++ []))
          (flat_map-map (λ (t : List ℕ). t) (text_at unit drawings) (range_with_len 0 (length drawings)))
          ∙ (ap (λ (t : List ℕ). own ++ t) (append-nil (placed ++ end)) ∙ sym (append_assoc own placed end)));
    }
