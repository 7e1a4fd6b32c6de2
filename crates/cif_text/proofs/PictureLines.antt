-- The texts of symbols and of calls are of short lines.
use Rattle.std.proofs.Common.{◌≡◌, ℕ, suc, ◌+◌, ◌^◌, ◌<◌, ◌≤◌, ℤ, pos, Bool, true, false, cond, All, List, [], ◌∷◌}
use Rattle.std.proofs.Common.{◌++◌, length, map, filter, refl, subst, arith, append_assoc, FitsSigned, w64}
use Rattle.std.proofs.lemmas.Int.{ints, fits_signed_mul}
use Rattle.std.specs.{Prelude.{codes, flat_map, int_div}, List.AllByRecursion}
use Rattle.lam_geom.specs.Places.{IsPlacedBox}
use Rattle.lam_geom.specs.declared.boxes.{MaskLayer.{MaskLayer, TheVariants.{ND, NP, NC, NM, NI, NB}}, MaskBox.MaskBox}
use Rattle.rule_table.{proofs.Sound.sound, specs.{Bounds.IsSize, Technology.numbers_of, declared.technology.Tech.Tech}}
use Rattle.list_facts.proofs.Elements.{all_map}
use Rattle.mask_out.specs.declared.drawing.{Call.Call, Symbol.Symbol}
use Rattle.mask_out.specs.{Masks.{Mask, mask_of, is_same_layer, mask_layers}, Pictures.IsCallOf}
use Rattle.cif_text.specs.Cif.{box_text, layer_name, layer_text, layers_text, scale_line, symbol_text}
use Rattle.cif_text.specs.{Calls.{call_text, calls_text, CanBeWritten}, Cutting.IsOfLines}
use Rattle.cif_text.proofs.{Lines.{no_line, one_line, lines_append, flat_lines}, ShortLines.{after, end_line, of_line}}
use Rattle.cif_text.proofs.ShortLines.{box_short, call_short, scale_short}

all_every : {X : Type 0} (P : X → Type 0) → ((x : X) → P x) → (xs : List X) → AllByRecursion P xs
all_every P h [] = tt
all_every P h (x ∷ xs) = (h x, all_every P h xs)

all_picked : {X : Type 0} (P : X → Type 0) (b : Bool) (x : X) (xs : List X) → P x → AllByRecursion P xs
    → AllByRecursion P (cond b (x ∷ xs) xs)
all_picked P true x xs one rest = (one, rest)
all_picked P false x xs one rest = rest

all_filter : {X : Type 0} (P : X → Type 0) (p : X → Bool) (xs : List X) → AllByRecursion P xs
    → AllByRecursion P (filter p xs)
all_filter P p [] h = tt
all_filter P p (x ∷ xs) h = all_picked P (p x) x (filter p xs) h.0 (all_filter P p xs h.1)

-- ---- symbols

box_lines : (box : MaskBox) → IsPlacedBox box.area → IsOfLines (box_text (mask_of box))
box_lines box placed =
    let left = placed.0.0 in
    let right = placed.0.1 in
    let bottom = placed.1.0 in
    let top = placed.1.1 in
    box_short _ _ _ _ (omega (arith, ints, left.0, left.1, right.0, right.1))
    (omega (arith, ints, bottom.0, bottom.1, top.0, top.1))
    (omega (arith, ints, left.0, left.1, right.0, right.1)) (omega (arith, ints, bottom.0, bottom.1, top.0, top.1))

two_letters : (layer : MaskLayer) → length (layer_name layer) ≤ 2
two_letters ND = omega arith
two_letters NP = omega arith
two_letters NC = omega arith
two_letters NM = omega arith
two_letters NI = omega arith
two_letters NB = omega arith

name_lines : (layer : MaskLayer) → IsOfLines (codes "L " ++ (layer_name layer ++ codes ";\n"))
name_lines layer =
    let two : length (layer_name layer) ≤ 2 = two_letters layer in
    of_line _ _ (omega arith) (after (codes "L ") _ 2 _ (omega arith) (after (layer_name layer) _ 2 _ two end_line))

layer_lines : (layer : MaskLayer) (masks : List Mask) → AllByRecursion (λ m. IsOfLines (box_text m)) masks
    → IsOfLines (layer_text layer masks)
layer_lines layer [] h = no_line
layer_lines layer (m ∷ masks) h =
    let boxes : List ℕ = flat_map box_text (m ∷ masks) in
    let moved : (a b c d : List ℕ) → (a ++ (b ++ c)) ++ d ≡ a ++ (b ++ (c ++ d)) = λ a b c d. simp append_assoc in
    subst IsOfLines (moved (codes "L ") (layer_name layer) (codes ";\n") boxes)
    (lines_append _ boxes (name_lines layer) (flat_lines box_text (m ∷ masks) h))

layers_lines : (masks : List Mask) → AllByRecursion (λ m. IsOfLines (box_text m)) masks → IsOfLines (layers_text masks)
layers_lines masks h =
    let text = λ (layer : MaskLayer). layer_text layer (filter (λ (m : Mask). is_same_layer layer m.layer) masks) in
    flat_lines text mask_layers
    (all_every (λ layer. IsOfLines (text layer))
    (λ layer. layer_lines layer (filter (λ (m : Mask). is_same_layer layer m.layer) masks)
    (all_filter (λ m. IsOfLines (box_text m)) (λ (m : Mask). is_same_layer layer m.layer) masks h)) mask_layers)

boxes_lines : (boxes : List MaskBox) → All (λ (box : MaskBox). IsPlacedBox box.area) boxes
    → AllByRecursion (λ box. IsOfLines (box_text (mask_of box))) boxes
boxes_lines [] placed = tt
boxes_lines (box ∷ boxes) placed =
    (box_lines box (placed 0 box (omega arith)), boxes_lines boxes (λ k d lt. placed (suc k) d (omega (arith, lt))))

pub symbol_lines : (number : ℕ) (unit : ℤ) (symbol : Symbol) → number < 2 ^ 64 → IsSize unit → CanBeWritten symbol
    → IsOfLines (symbol_text number unit symbol.name (map mask_of symbol.boxes))
unfolding symbol_text
symbol_lines number unit symbol few size can =
    let name = symbol.name in
    let layers : List ℕ = layers_text (map mask_of symbol.boxes) in
    let half : FitsSigned w64 (int_div unit (pos 2)) = omega (arith, ints, size.low, size.high, size.even) in
    let last : IsOfLines (codes "DF;\n") = one_line _ (68 ∷ 70 ∷ 59 ∷ [], refl) (omega arith) in
    let named : IsOfLines (codes "9 " ++ (name ++ codes ";\n")) =
    of_line _ _ (omega arith)
    (after (codes "9 ") _ 2 _ (omega arith) (after name _ 65000 _ can.named end_line)) in
    let boxes : AllByRecursion (λ m. IsOfLines (box_text m)) (map mask_of symbol.boxes) =
    all_map (λ m. IsOfLines (box_text m)) mask_of symbol.boxes (boxes_lines symbol.boxes can.placed) in
    let moved : (a b c d : List ℕ) → (a ++ (b ++ c)) ++ d ≡ a ++ (b ++ (c ++ d)) = λ a b c d. simp append_assoc in
    lines_append (scale_line number unit) _ (scale_short number unit few half)
    (subst IsOfLines (moved (codes "9 ") name (codes ";\n") (layers ++ codes "DF;\n"))
    (lines_append _ _ named
    (lines_append layers (codes "DF;\n") (layers_lines (map mask_of symbol.boxes) boxes) last)))

-- ---- calls

call_lines : (count : ℕ) (unit : ℤ) (call : Call) → count < 2 ^ 32 → IsSize unit → IsCallOf count call
    → IsOfLines (call_text unit call)
call_lines count unit call few size is =
    let x = is.x in
    let y = is.y in
    call_short (call.symbol + 1) _ _ (omega (arith, is.symbol, few))
    (fits_signed_mul w64 call.x unit (2 ^ 41) 4096 (omega (arith, ints, x.0, x.1))
    (omega (arith, ints, size.low, size.high)) (omega arith))
    (fits_signed_mul w64 call.y unit (2 ^ 41) 4096 (omega (arith, ints, y.0, y.1))
    (omega (arith, ints, size.low, size.high)) (omega arith))

all_calls_lines : (count : ℕ) (unit : ℤ) (calls : List Call) → count < 2 ^ 32 → IsSize unit
    → All (IsCallOf count) calls → AllByRecursion (λ call. IsOfLines (call_text unit call)) calls
all_calls_lines count unit [] few size called = tt
all_calls_lines count unit (call ∷ calls) few size called = (
  call_lines count unit call few size (called 0 call (omega arith)),
  all_calls_lines count unit calls few size
      (λ k d lt. called (suc k) d (omega (arith, lt))),
)

pub calls_lines : (count : ℕ) (unit : ℤ) (calls : List Call) → count < 2 ^ 32 → IsSize unit
    → All (IsCallOf count) calls → IsOfLines (calls_text unit calls)
calls_lines count unit calls few size called =
    let last : IsOfLines (codes "E\n") = one_line _ (69 ∷ [], refl) (omega arith) in
    lines_append (flat_map (call_text unit) calls) (codes "E\n")
    (flat_lines (call_text unit) calls (all_calls_lines count unit calls few size called)) last

-- the unit of a technology
pub unit_size : (tech : Tech) → IsSize (numbers_of tech).unit
unit_size tech = (sound (numbers_of tech) tech.sound).unit
