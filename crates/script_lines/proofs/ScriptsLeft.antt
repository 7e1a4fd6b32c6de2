-- What is left of a script while it is read.
use Rattle.std.proofs.Common.{◌≡◌, ℕ, ◌+◌, List, [], ◌∷◌, ◌++◌, Option, Some, None, Result, Ok, Err, refl, sym, ap, ◌∙◌}
use Rattle.std.proofs.{Common.append_assoc, lemmas.List.append-nil}
use Rattle.stick_text.specs.{declared.fault.{StickKind.StickKind, LineFault.LineFault}, Reading.{◌>>=◌, FailsLine}}
use Rattle.stick_text.specs.Words.{Word}
use Rattle.stick_text.specs.declared.fault.LineFault.TheVariants as line_faults
use Rattle.script_lines.specs.Scripts.{step_by, with_step, steps_from, fault_at, IsScriptFault}

-- what was read before, and what is still read
abbrev pub with_prefix : {A : Type 0} → List A → Result (List A) ℕ → Result (List A) ℕ
with_prefix prefix read = read >>= λ steps. Ok (prefix ++ steps)

-- a line that says something
pub read_one : {A : Type 0} (prefix : List A) (number : ℕ) (said : Result (Option A) StickKind) (step : A)
    (read total : Result (List A) ℕ)
    → said ≡ Ok (Some step) → with_prefix prefix (with_step number said read) ≡ total
    → with_prefix (prefix ++ step ∷ []) read ≡ total
read_one {A} prefix number said step (Ok steps) total e so_far =
    ap (λ (l : List A). Ok l) (append_assoc prefix (step ∷ []) steps)
    ∙ sym (ap (λ s. with_prefix prefix (with_step number s (Ok steps))) e) ∙ so_far
read_one {A} prefix number said step (Err n) total e so_far =
    sym (ap (λ s. with_prefix prefix (with_step number s (Err n))) e) ∙ so_far

-- a line without words
pub read_none : {A : Type 0} (prefix : List A) (number : ℕ) (said : Result (Option A) StickKind)
    (read total : Result (List A) ℕ)
    → said ≡ Ok None → with_prefix prefix (with_step number said read) ≡ total → with_prefix prefix read ≡ total
read_none prefix number said read total e so_far = sym (ap (λ s. with_prefix prefix (with_step number s read)) e)
    ∙ so_far

-- a bad line
pub read_bad : {A : Type 0} (prefix : List A) (number : ℕ) (said : Result (Option A) StickKind) (fault : LineFault)
    (read total : Result (List A) ℕ)
    → FailsLine fault said → with_prefix prefix (with_step number said read) ≡ total
    → IsScriptFault (fault_at number fault) total
read_bad prefix number said (line_faults.Kind kind) read total e so_far = sym so_far
    ∙ ap (λ s. with_prefix prefix (with_step number s read)) e
read_bad prefix number said line_faults.OutOfMemory read total e so_far = tt

-- no line is left
pub read_all : {A : Type 0} (step_of : List Word → Result A StickKind) (prefix : List A) (number : ℕ)
    (rest : List (List ℕ)) (total : Result (List A) ℕ) → rest ≡ []
    → with_prefix prefix (steps_from step_of number rest) ≡ total → total ≡ Ok prefix
read_all {A} step_of prefix number rest total e so_far = sym so_far
    ∙ ap (λ l. with_prefix prefix (steps_from step_of number l)) e ∙ ap (λ (l : List A). Ok l) (append-nil prefix)

-- the first of the lines that are left
pub next_line : {A : Type 0} (step_of : List Word → Result A StickKind) (prefix : List A) (number : ℕ) (line : List ℕ)
    (rest after : List (List ℕ)) (total : Result (List A) ℕ) → rest ≡ line ∷ after
    → with_prefix prefix (steps_from step_of number rest) ≡ total
    → with_prefix prefix (with_step number (step_by step_of line) (steps_from step_of (number + 1) after)) ≡ total
next_line step_of prefix number line rest after total e so_far =
    sym (ap (λ l. with_prefix prefix (steps_from step_of number l)) e) ∙ so_far

pub prefix_none : {A : Type 0} (read : Result (List A) ℕ) → with_prefix [] read ≡ read
prefix_none (Ok steps) = refl
prefix_none (Err n) = refl
