-- What the calls of a picture add to what has been read.
use Rattle.std.proofs.Common.{◌≡◌, ℕ, zero, suc, ◌+◌, ◌^◌, ◌<◌, ◌≤◌, ℤ, pos, ◌*ℤ◌, int_eq, Bool, true, false, cond}
use Rattle.std.proofs.Common.{◌||◌, Result, Ok, List, [], ◌∷◌, ◌++◌, map, length, refl, sym, ap, ◌∙◌, subst}
use Rattle.std.proofs.{Common.{append_assoc, append-nil, arith, All}, lemmas.Bool.Decides.Decides-int_eq}
use Rattle.std.{proofs.lemmas.List.Elements.recursion_from_All, specs.List.{AllByRecursion, range_with_len}}
use Rattle.mask_out.specs.declared.drawing.Call as drawn
use Rattle.mask_out.specs.Pictures.{Drawing}
use Rattle.cif_lex.specs.{declared.command.Command.TheVariants.Call, Commands.is_far, Shifts.is_odd}
use Rattle.cif_read.specs.{declared.{dialect.Dialect.TheVariants.Plain, fault.CifKind.CifKind}, Acts.{scaled, State}}
use Rattle.cif_read.specs.{Acts.{has_number, is_known, place_of, is_bad_call, is_bad_symbol, act}, Hierarchies.Symbol}
use Rattle.cif_read.{specs.Hierarchies.{Step, called}, proofs.PlainTexts.scaled_one}
use Rattle.written_masks.specs.TextMeanings.{IsWritableCall, symbol_at, step_of_call}
use Rattle.written_masks.proofs.{Numbers.shift, Spelled.not_far, Commands.{shift_by, call_command}}
use Rattle.written_masks.proofs.DefinitionActs.{going, then_goes, if_not, not_odd, never_odd, outside, none_of_four}
use Rattle.written_masks.proofs.SymbolActs.{fine_symbol, all_symbols, other_number}

if_so : {A : Type 0} (b : Bool) (x y : A) → b ≡ true → cond b x y ≡ x
if_so b x y e = ap (λ c. cond c x y) e

-- ---- where a symbol stands

same_number : (m n : ℕ) → m ≡ n → int_eq (pos m) (pos n) ≡ true
same_number m n e = (Decides-int_eq (pos m) (pos n)).1 (ap pos e)

-- the symbol with this number is known, and stands at this place
pub record Stands (n : ℤ) (symbols : List Symbol) (place : ℕ) : Type 0 where
  pub known : is_known n symbols ≡ true
  pub at : place_of n symbols ≡ place

first_stands : (n : ℤ) (symbol : Symbol) (symbols : List Symbol) → has_number n symbol ≡ true
    → Stands n (symbol ∷ symbols) 0
first_stands n symbol symbols e =
    record {
      known = ap (λ b. b || is_known n symbols) e;
      at = if_so (has_number n symbol) 0 (place_of n symbols + 1) e;
    }

later_stands : (n : ℤ) (symbol : Symbol) (symbols : List Symbol) (place : ℕ) → has_number n symbol ≡ false
    → Stands n symbols place → Stands n (symbol ∷ symbols) (place + 1)
later_stands n symbol symbols place e is = record {
  known = ap (λ b. b || is_known n symbols) e ∙ is.known;
  at = if_not (has_number n symbol) 0 (place_of n symbols + 1) e ∙ ap (λ (k : ℕ). k + 1) is.at;
}

stands_from : (unit : ℤ) (drawings : List Drawing) (a n k : ℕ) → k < n
    → Stands (pos (a + k + 1)) (map (symbol_at unit drawings) (range_with_len a n)) k
stands_from unit drawings a zero k lt = absurd (omega (arith, lt))
stands_from unit drawings a (suc n) zero lt =
    first_stands (pos (a + 0 + 1)) (symbol_at unit drawings a)
    (map (symbol_at unit drawings) (range_with_len (a + 1) n)) (same_number (a + 1) (a + 0 + 1) (omega arith))
stands_from unit drawings a (suc n) (suc k) lt =
    let rest : List Symbol = map (symbol_at unit drawings) (range_with_len (a + 1) n) in
    let next : a + 1 + k + 1 ≡ a + suc k + 1 = omega arith in
    let place : k + 1 ≡ suc k = omega arith in
    let after : Stands (pos (a + suc k + 1)) rest k =
    subst (λ (m : ℕ). Stands (pos m) rest k) next (stands_from unit drawings (a + 1) n k (omega (arith, lt))) in
    subst (λ (p : ℕ). Stands (pos (a + suc k + 1)) (symbol_at unit drawings a ∷ rest) p) place
    (later_stands (pos (a + suc k + 1)) (symbol_at unit drawings a) rest k
    (other_number (a + 1) (a + suc k + 1) (omega arith)) after)

stands : (unit : ℤ) (drawings : List Drawing) (k : ℕ) → k < length drawings
    → Stands (pos (k + 1)) (all_symbols unit drawings) k
stands unit drawings k lt = let first : 0 + k + 1 ≡ k + 1 =
    omega arith in subst (λ (m : ℕ). Stands (pos m) (all_symbols unit drawings) k) first
    (stands_from unit drawings 0 (length drawings) k lt)

-- ---- calls

abbrev with_call : List Symbol → List Step → Step → Result State CifKind
with_call symbols steps step = Ok (outside symbols (steps ++ (step ∷ [])))

abbrev shifted_step : ℕ → ℤ → ℤ → Step
shifted_step place x y = called place (record { turn = 0; x = x; y = y })

called_acts : (symbols : List Symbol) (steps : List Step) (n x y : ℤ) (divisor place : ℕ)
    → is_bad_call n x y false ≡ false → Stands n symbols place
    → act Plain (outside symbols steps) (Call n (shift_by x y) false false divisor)
    ≡ with_call symbols steps (shifted_step place (pos 2 *ℤ x) (pos 2 *ℤ y))
unfolding act
called_acts symbols steps n x y divisor place fine is =
    let end = λ (k : ℕ) (a b : ℤ). with_call symbols steps (shifted_step k (pos 2 *ℤ a) (pos 2 *ℤ b)) in
    let at = place_of n symbols in
    if_not (is_bad_call n x y false) _ _ fine
    ∙ (if_so (is_known n symbols) _ _ is.known
    ∙ (not_odd (outside symbols steps) (is_odd (pos 1) (pos 1) (pos divisor)) _ (never_odd (pos 1) (pos divisor))
    ∙ (ap (λ (a : ℤ). end at a (scaled (pos 1) (pos 1) y)) (scaled_one x)
    ∙ (ap (λ (b : ℤ). end at x b) (scaled_one y) ∙ ap (λ (k : ℕ). end k x y) is.at))))

call_acts : (unit : ℤ) (drawings : List Drawing) (steps : List Step) (call : drawn.Call) → length drawings < 2 ^ 30
    → IsWritableCall unit (length drawings) call
    → act Plain (outside (all_symbols unit drawings) steps) (call_command unit call)
    ≡ with_call (all_symbols unit drawings) steps (step_of_call unit call)
call_acts unit drawings steps call few is =
    let known = is.symbol in
    let n : ℕ = call.symbol + 1 in
    let small : n ≤ 2 ^ 30 = omega (arith, known, few) in
    let x : ℤ = call.x *ℤ unit in
    let y : ℤ = call.y *ℤ unit in
    let end = λ (a b : ℤ). with_call (all_symbols unit drawings) steps (shifted_step call.symbol a b) in
    called_acts (all_symbols unit drawings) steps (pos n) x y _ call.symbol
    (none_of_four (is_bad_symbol (pos n)) false (is_far x) (is_far y) (fine_symbol n small) refl (not_far x is.x)
    (not_far y is.y)) (stands unit drawings call.symbol known)
    ∙ (ap (λ (a : ℤ). end a (pos 2 *ℤ y)) (shift call.x unit)
    ∙ ap (λ (b : ℤ). end (call.x *ℤ (pos 2 *ℤ unit)) b) (shift call.y unit))

calls_from : (unit : ℤ) (drawings : List Drawing) (calls : List drawn.Call) (steps : List Step)
    → length drawings < 2 ^ 30 → AllByRecursion (IsWritableCall unit (length drawings)) calls
    → going (outside (all_symbols unit drawings) steps) (map (call_command unit) calls)
    ≡ Ok (outside (all_symbols unit drawings) (steps ++ map (step_of_call unit) calls))
calls_from unit drawings [] steps few h =
    ap (λ (s : List Step). Ok (outside (all_symbols unit drawings) s)) (sym (append-nil steps))
calls_from unit drawings (call ∷ calls) steps few h =
    let symbols : List Symbol = all_symbols unit drawings in
    let more : List Step = steps ++ (step_of_call unit call ∷ []) in
    then_goes (outside symbols steps) (outside symbols more) (call_command unit call) (map (call_command unit) calls)
    _ (call_acts unit drawings steps call few h.0)
    (calls_from unit drawings calls more few h.1
    ∙ ap (λ (s : List Step). Ok (outside symbols s))
    (append_assoc steps (step_of_call unit call ∷ []) (map (step_of_call unit) calls)))

pub calls_act : (unit : ℤ) (drawings : List Drawing) (calls : List drawn.Call) → length drawings < 2 ^ 30
    → All (IsWritableCall unit (length drawings)) calls
    → going (outside (all_symbols unit drawings) []) (map (call_command unit) calls)
    ≡ Ok (outside (all_symbols unit drawings) (map (step_of_call unit) calls))
calls_act unit drawings calls few h =
    calls_from unit drawings calls [] few (recursion_from_All (IsWritableCall unit (length drawings)) calls h)
