-- How many lines a script has.
use Rattle.std.proofs.Common.{◌≡◌, ℕ, ◌+◌, ◌≤◌, Option, Some, None, Result, Ok, Err, List, [], ◌∷◌, length, refl, ap}
use Rattle.std.{proofs.Common.arith, specs.{Prelude.◌^◌, Str.Lines.lines}}
use Rattle.design_sizes.proofs.Lines.{lines_with_ends}
use Rattle.stick_lex.proofs.Loop.{width}
use Rattle.stick_text.specs.{declared.fault.StickKind.StickKind, Words.Word}
use Rattle.script_lines.specs.Scripts.{step_by, steps_from, steps_of, with_step}
use Rattle.edit_lines.specs.{declared.script.EditLine.EditLine, Scripts.{edit_of, edits_of}}

no_steps : {A : Type 0} (n : ℕ) (xs : List A) → (let r : Result (List A) ℕ = Err n in r) ≡ Ok xs → ⊥
no_steps n xs e = cc

not_empty : {A : Type 0} (x : A) (xs : List A) → (let r : Result (List A) ℕ = Ok [] in r) ≡ Ok (x ∷ xs) → ⊥
not_empty x xs e = cc

-- with one step more there is one more
longer : {A : Type 0} (x : A) (xs ys : List A) (most : ℕ) → length xs ≤ most
    → (let r : Result (List A) ℕ = Ok (x ∷ xs) in r) ≡ Ok ys → length ys ≤ most + 1
longer x xs [] most few e = omega arith
longer x xs (y ∷ ys) most few e =
    let same : xs ≡ ys = cc in
    let count = ap length same in
    omega (arith, few, count)

step_more : {A : Type 0} (number most : ℕ) (step : Result (Option A) StickKind) (read : Result (List A) ℕ)
    (steps : List A) → ((rest : List A) → read ≡ Ok rest → length rest ≤ most)
    → with_step number step read ≡ Ok steps → length steps ≤ most + 1
step_more number most (Ok None) read steps few e = let n = few steps e in omega (arith, n)
step_more number most (Ok (Some step)) (Ok rest) steps few e = longer step rest steps most (few rest refl) e
step_more number most (Ok (Some step)) (Err n) steps few e = absurd (no_steps n steps e)
step_more number most (Err kind) read steps few e = absurd (no_steps number steps e)

few_from : {A : Type 0} (step_of : List Word → Result A StickKind) (number : ℕ) (ls : List (List ℕ)) (steps : List A)
    → steps_from step_of number ls ≡ Ok steps → length steps ≤ length ls
few_from step_of number [] [] e = omega arith
few_from step_of number [] (step ∷ steps) e = absurd (not_empty step steps e)
few_from step_of number (line ∷ ls) steps e =
    let n = step_more number (length ls) (step_by step_of line) (steps_from step_of (number + 1) ls) steps
    (λ rest is. few_from step_of (number + 1) ls rest is) e in
    omega (arith, n)

few_wide : (ls : List (List ℕ)) → length ls ≤ width ls
few_wide [] = omega arith
few_wide (line ∷ ls) = omega (arith, few_wide ls)

few_steps : {A : Type 0} (step_of : List Word → Result A StickKind) (text : List ℕ) (steps : List A)
    → steps_of step_of text ≡ Ok steps → length steps ≤ length text + 1
few_steps step_of text steps e =
    let few = few_from step_of 1 (lines text) steps e in
    let wide = few_wide (lines text) in
    let ends = lines_with_ends text in
    omega (arith, few, wide, ends)

-- a script that is not too long has few lines
pub few_edits : (text : List ℕ) (steps : List EditLine) → edits_of text ≡ Ok steps → length text ≤ 65536
    → length steps ≤ 2 ^ 20
unfolding edits_of
few_edits text steps e short = let n = few_steps edit_of text steps e in omega (arith, n, short)
