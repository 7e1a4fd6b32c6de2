-- The lines of a text together, with an end after each, are no longer than the text with one more.
use Rattle.std.proofs.Common.{ℕ, ◌+◌, ◌-◌, ◌≤◌, Bool, true, false, cond, eqb, List, [], ◌∷◌, length, take, arith}
use Rattle.std.proofs.lemmas.List.{length-take}
use Rattle.std.specs.{Prelude.slice_index, List.slice_split, Str.Lines.{lines, lines_of_parts}}
use Rattle.stick_lex.proofs.Loop.{width, width-slice_split}

stripped : (b : Bool) (line : List ℕ) → length (cond b (take (length line - 1) line) line) ≤ length line
stripped true line = omega (arith, length-take (length line - 1) line)
stripped false line = omega arith

last_line : (b : Bool) (part : List ℕ) → width (cond b [] (part ∷ [])) ≤ length part + 1
last_line true part = omega arith
last_line false part = omega arith

fit_in_parts : (parts : List (List ℕ)) → width (lines_of_parts parts) ≤ width parts
fit_in_parts [] = omega arith
fit_in_parts (part ∷ []) = omega (arith, last_line (eqb (length part) 0) part)
fit_in_parts (part ∷ next ∷ parts) =
    omega (arith, stripped (eqb (slice_index part (length part - 1)) 13) part, fit_in_parts (next ∷ parts))

pub lines_with_ends : (text : List ℕ) → width (lines text) ≤ length text + 1
lines_with_ends text =
    omega (arith, width-slice_split (λ b. eqb b 10) text, fit_in_parts (slice_split (λ b. eqb b 10) text))

-- the bytes of all these lines, without ends
abbrev pub bytes_of : List (List ℕ) → ℕ
bytes_of [] = 0
bytes_of (line ∷ lines) = length line + bytes_of lines

without_ends : (ls : List (List ℕ)) → bytes_of ls ≤ width ls
without_ends [] = omega arith
without_ends (line ∷ ls) = omega (arith, without_ends ls)

one_end_less : (ls : List (List ℕ)) (n : ℕ) → width ls ≤ n + 1 → bytes_of ls ≤ n
one_end_less [] n fit = omega arith
one_end_less (line ∷ ls) n fit = omega (arith, without_ends ls)

pub lines_fit : (text : List ℕ) → bytes_of (lines text) ≤ length text
lines_fit text = one_end_less (lines text) (length text) (lines_with_ends text)
