-- What holds of each line that a script says, if it holds of what any words say that can stand in a line.
use Rattle.std.proofs.Common.{◌≡◌, ℕ, ◌+◌, List, [], ◌∷◌, Option, Some, None, Result, Ok, Err, refl}
use Rattle.std.specs.List.{AllByRecursion}
use Rattle.stick_lex.specs.{declared.token.{Token.Token, LexFault.LexFault}, Tokens.tokens_of}
use Rattle.stick_text.specs.{declared.fault.StickKind.StickKind, Lines.tokens_or_kind, Words.Word}
use Rattle.stick_text.proofs.Written.{Holds, then_holds, AreWords, words_in_range}
use Rattle.script_lines.specs.Scripts.{step_by_words, step_by, with_step, steps_from}

abbrev IsSaid : {A : Type 0} → (A → Type 0) → Option A → Type 0
IsSaid P None = Unit {0}
IsSaid P (Some step) = P step

by_words_holds : {A : Type 0} (P : A → Type 0) (step_of : List Word → Result A StickKind)
    → ((words : List Word) → AreWords words → Holds P (step_of words))
    → (words : List Word) → AreWords words → Holds (IsSaid P) (step_by_words step_of words)
by_words_holds P step_of each [] h = tt
by_words_holds P step_of each (word ∷ words) h =
    then_holds P (IsSaid P) (step_of (word ∷ words)) _ (each (word ∷ words) h) (λ step k. k)

tokens_hold : (line : List ℕ) (r : Result (List Token) LexFault) → tokens_of line ≡ r
    → Holds (λ tokens. tokens_of line ≡ Ok tokens) (tokens_or_kind r)
tokens_hold line (Ok tokens) e = e
tokens_hold line (Err fault) e = tt

line_holds : {A : Type 0} (P : A → Type 0) (step_of : List Word → Result A StickKind)
    → ((words : List Word) → AreWords words → Holds P (step_of words))
    → (line : List ℕ) → Holds (IsSaid P) (step_by step_of line)
line_holds P step_of each line =
    then_holds (λ tokens. tokens_of line ≡ Ok tokens) (IsSaid P) (tokens_or_kind (tokens_of line)) _
    (tokens_hold line (tokens_of line) refl)
    (λ tokens e. by_words_holds P step_of each _ (words_in_range line tokens e))

more_holds : {A : Type 0} (P : A → Type 0) (number : ℕ) (said : Result (Option A) StickKind) (read : Result (List A) ℕ)
    → Holds (IsSaid P) said → Holds (AllByRecursion P) read → Holds (AllByRecursion P) (with_step number said read)
more_holds P number (Ok None) read h k = k
more_holds P number (Ok (Some step)) (Ok steps) h k = (h, k)
more_holds P number (Ok (Some step)) (Err n) h k = tt
more_holds P number (Err kind) read h k = tt

pub steps_hold : {A : Type 0} (P : A → Type 0) (step_of : List Word → Result A StickKind)
    → ((words : List Word) → AreWords words → Holds P (step_of words))
    → (number : ℕ) (lines : List (List ℕ)) → Holds (AllByRecursion P) (steps_from step_of number lines)
steps_hold P step_of each number [] = tt
steps_hold P step_of each number (line ∷ lines) =
    more_holds P number (step_by step_of line) (steps_from step_of (number + 1) lines)
    (line_holds P step_of each line) (steps_hold P step_of each (number + 1) lines)
