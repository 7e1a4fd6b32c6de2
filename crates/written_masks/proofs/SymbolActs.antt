-- What the commands of the symbols add to what has been read.
use Rattle.std.proofs.Common.{◌≡◌, ℕ, zero, suc, ◌+◌, ◌^◌, ◌<◌, ◌≤◌, ℤ, pos, ◌≤ℤ◌, int_lt, int_eq, Bool, true, false}
use Rattle.std.proofs.Common.{◌||◌, Option, None, Ok, List, [], ◌∷◌, ◌++◌, map, flat_map, length, get_or, refl, sym, ap}
use Rattle.std.proofs.{Common.{◌∙◌, append_assoc, append-nil, arith, All}, lemmas.{Int.ints, Bool.Decides.nat_tests}}
use Rattle.std.proofs.lemmas.List.{Elements.{All-filter, filter_passes, recursion_from_All}, Folds.list_any-append}
use Rattle.std.specs.List.{AllByRecursion, range_with_len}
use Rattle.lam_geom.specs.declared.boxes.MaskLayer.{MaskLayer, TheVariants.{ND, NP, NC, NM, NI, NB}}
use Rattle.mask_out.specs.{Masks.{Mask, is_same_layer, mask_layers}, Pictures.{Drawing, no_drawing}}
use Rattle.cif_lex.specs.{declared.command.Command.{Command, TheVariants.{Define, Finish, Extension}}, Commands.is_far}
use Rattle.cif_read.specs.{declared.dialect.Dialect.TheVariants.Plain, Hierarchies.{Drawn, Symbol, own}, Acts.Named}
use Rattle.cif_read.specs.Acts.{has_number, is_known, is_bad_symbol, is_bad_factor, act}
use Rattle.written_masks.specs.TextMeanings.{IsUnit, IsWritableMask, IsWritableDrawing, drawn_mask, symbol_at}
use Rattle.written_masks.proofs.{Numbers.not_below, Spelled.{not_far, small_number}, Commands.on_layer}
use Rattle.written_masks.proofs.{Commands.{layers_commands, symbol_commands, commands_at}, DefinitionActs.going}
use Rattle.written_masks.proofs.DefinitionActs.{then_goes, goes_on, if_not, outside, inside, none_of_two, IsMaskOn}
use Rattle.written_masks.proofs.DefinitionActs.{layers_add}

-- ---- the masks of a layer

same_layer : (a b : MaskLayer) → is_same_layer a b ≡ true → b ≡ a
same_layer ND ND h = refl
same_layer NP NP h = refl
same_layer NC NC h = refl
same_layer NM NM h = refl
same_layer NI NI h = refl
same_layer NB NB h = refl
same_layer a b h = absurd cc

both_hold : (layer : MaskLayer) (masks : List Mask) → AllByRecursion IsWritableMask masks
    → AllByRecursion (λ (m : Mask). is_same_layer layer m.layer ≡ true) masks → AllByRecursion (IsMaskOn layer) masks
both_hold layer [] h k = tt
both_hold layer (m ∷ masks) h k =
    (record { writable = h.0; same = same_layer layer m.layer k.0 }, both_hold layer masks h.1 k.1)

on_layer_is : (masks : List Mask) → All IsWritableMask masks → (layer : MaskLayer)
    → AllByRecursion (IsMaskOn layer) (on_layer masks layer)
on_layer_is masks h layer =
    let test = λ (m : Mask). is_same_layer layer m.layer in
    both_hold layer (on_layer masks layer)
    (recursion_from_All IsWritableMask (on_layer masks layer) (All-filter test IsWritableMask masks h))
    (recursion_from_All (λ (m : Mask). is_same_layer layer m.layer ≡ true) (on_layer masks layer)
    (filter_passes test masks))

-- ---- one symbol

pub fine_symbol : (n : ℕ) → n ≤ 2 ^ 30 → is_bad_symbol (pos n) ≡ false
fine_symbol n small =
    let low : pos 0 ≤ℤ pos n = omega (arith, ints) in
    none_of_two (int_lt (pos n) (pos 0)) (is_far (pos n)) (not_below (pos n) (pos 0) low)
    (not_far (pos n) (small_number n small))

fine_factor : (z : ℤ) → pos 1 ≤ℤ z → z ≤ℤ pos 2048 → is_bad_factor z ≡ false
fine_factor z low high =
    let below : z ≤ℤ pos 65536 = omega (arith, ints) in
    none_of_two (int_lt z (pos 1)) (int_lt (pos 65536) z) (not_below z (pos 1) low) (not_below (pos 65536) z below)

none_of_three : (a b c : Bool) → a ≡ false → b ≡ false → c ≡ false → (a || b || c) ≡ false
none_of_three a b c p q r = rw (p, q, r)

define_acts : (symbols : List Symbol) (n : ℕ) (half : ℤ) → n ≤ 2 ^ 30 → pos 1 ≤ℤ half → half ≤ℤ pos 2048
    → is_known (pos n) symbols ≡ false
    → act Plain (outside symbols []) (Define (pos n) half (pos 1)) ≡ Ok (inside symbols (pos n) half None [])
unfolding act
define_acts symbols n half small low high fresh =
    if_not (is_bad_symbol (pos n) || is_bad_factor half || is_bad_factor (pos 1)) _ _
    (none_of_three (is_bad_symbol (pos n)) (is_bad_factor half) (is_bad_factor (pos 1)) (fine_symbol n small)
    (fine_factor half low high) refl)
    ∙ if_not (is_known (pos n) symbols) _ _ fresh

extension_acts : (symbols : List Symbol) (n half : ℤ)
    → act Plain (inside symbols n half None []) Extension ≡ Ok (inside symbols n half None [])
unfolding act
extension_acts symbols n half = refl

finish_acts : (symbols : List Symbol) (n half : ℤ) (named : Option Named) (boxes : List Drawn)
    → act Plain (inside symbols n half named boxes) Finish
    ≡ Ok (outside (symbols ++ (record { number = n; steps = map own boxes } ∷ [])) [])
unfolding act
finish_acts symbols n half named boxes = refl

symbol_acts : (unit : ℤ) (is : IsUnit unit) (symbols : List Symbol) (n : ℕ) (masks : List Mask) → n ≤ 2 ^ 30
    → is_known (pos n) symbols ≡ false → All IsWritableMask masks
    → masks ≡ flat_map (on_layer masks) mask_layers
    → going (outside symbols []) (symbol_commands n is.half masks)
    ≡ Ok (outside (symbols ++ (record { number = pos n; steps = map own (map (drawn_mask unit) masks) } ∷ [])) [])
symbol_acts unit is symbols n masks small fresh h by_layer =
    let half = is.half in
    let boxed : List Command = layers_commands masks mask_layers ++ (Finish ∷ []) in
    let added : List Drawn = map (drawn_mask unit) (flat_map (on_layer masks) mask_layers) in
    let layers = layers_add unit is symbols (pos n) masks mask_layers None [] (on_layer_is masks h) in
    let end = λ (boxes : List Drawn). outside (symbols ++ (record { number = pos n; steps = map own boxes } ∷ [])) [] in
    then_goes (outside symbols []) (inside symbols (pos n) half None []) (Define (pos n) half (pos 1))
    (Extension ∷ boxed) _ (define_acts symbols n half small is.least is.greatest fresh)
    (then_goes (inside symbols (pos n) half None []) (inside symbols (pos n) half None []) Extension boxed _
    (extension_acts symbols (pos n) half)
    (goes_on (inside symbols (pos n) half None []) (inside symbols (pos n) half layers.named_after added)
    (layers_commands masks mask_layers) (Finish ∷ []) _ layers.goes
    (then_goes (inside symbols (pos n) half layers.named_after added) (end added) Finish [] _
    (finish_acts symbols (pos n) half layers.named_after added)
    (ap (λ (list : List Mask). Ok (end (map (drawn_mask unit) list))) (sym by_layer)))))

-- ---- all symbols

pub other_number : (m n : ℕ) → m < n → int_eq (pos m) (pos n) ≡ false
other_number m n lt = grind (arith, nat_tests)

-- no symbol has one of the numbers from a + 1 on
abbrev IsFreshFrom : ℕ → List Symbol → Type 0
IsFreshFrom a symbols = (m : ℕ) → a ≤ m → is_known (pos (m + 1)) symbols ≡ false

one_more : (a : ℕ) (symbols : List Symbol) (boxes : List Drawn) → IsFreshFrom a symbols
    → IsFreshFrom (a + 1) (symbols ++ (record { number = pos (a + 1); steps = map own boxes } ∷ []))
one_more a symbols boxes fresh m le =
    let own : Symbol = record { number = pos (a + 1); steps = map own boxes } in
    list_any-append (has_number (pos (m + 1))) symbols (own ∷ [])
    ∙ none_of_two (is_known (pos (m + 1)) symbols) (is_known (pos (m + 1)) (own ∷ [])) (fresh m (omega (arith, le)))
    (none_of_two (int_eq (pos (a + 1)) (pos (m + 1))) false (other_number (a + 1) (m + 1) (omega (arith, le))) refl)

symbols_from : (unit : ℤ) (is : IsUnit unit) (drawings : List Drawing) (a n : ℕ) (before : List Symbol)
    → a + n ≤ length drawings → length drawings < 2 ^ 30 → All IsWritableDrawing drawings → IsFreshFrom a before
    → going (outside before []) (flat_map (commands_at is.half drawings) (range_with_len a n))
    ≡ Ok (outside (before ++ map (symbol_at unit drawings) (range_with_len a n)) [])
symbols_from unit is drawings a zero before le few h fresh =
    ap (λ (s : List Symbol). Ok (outside s [])) (sym (append-nil before))
symbols_from unit is drawings a (suc n) before le few h fresh =
    let drawing = get_or drawings a no_drawing in
    let here : IsWritableDrawing drawing = h a no_drawing (omega (arith, le)) in
    let after : List Symbol = before ++ (symbol_at unit drawings a ∷ []) in
    goes_on (outside before []) (outside after []) (commands_at is.half drawings a)
    (flat_map (commands_at is.half drawings) (range_with_len (a + 1) n)) _
    (symbol_acts unit is before (a + 1) drawing.masks (omega (arith, le, few)) (fresh a (omega arith)) here.masks
    here.by_layer)
    (symbols_from unit is drawings (a + 1) n after (omega (arith, le)) few h
    (one_more a before (map (drawn_mask unit) drawing.masks) fresh)
    ∙ ap (λ (s : List Symbol). Ok (outside s []))
    (append_assoc before (symbol_at unit drawings a ∷ [])
    (map (symbol_at unit drawings) (range_with_len (a + 1) n))))

abbrev pub all_symbols : ℤ → List Drawing → List Symbol
all_symbols unit drawings = map (symbol_at unit drawings) (range_with_len 0 (length drawings))

pub symbols_act : (unit : ℤ) (is : IsUnit unit) (drawings : List Drawing) → length drawings < 2 ^ 30
    → All IsWritableDrawing drawings
    → going (outside [] []) (flat_map (commands_at is.half drawings) (range_with_len 0 (length drawings)))
    ≡ Ok (outside (all_symbols unit drawings) [])
symbols_act unit is drawings few h =
    symbols_from unit is drawings 0 (length drawings) [] (omega arith) few h (λ m le. refl)
