-- The first line of a text, at its first line end.
use Rattle.std.proofs.Common.{◌≡◌, ℕ, ◌+◌, ◌<◌, ◌≤◌, Bool, true, false, cond, not, eqb, List, [], ◌∷◌, length, take}
use Rattle.std.proofs.{Common.{drop, Some, None, refl, sym, ap, ◌∙◌, arith}, lemmas.List.Splits.slice_split_first}
use Rattle.std.proofs.lemmas.List.{Splits.{slice_split_none, length-slice_split}, Sums.prefix_len_passes}
use Rattle.std.{proofs.lemmas.Bool.Decides.nat_tests, specs.List.{slice_split, before_first, after_first}}
use Rattle.std.specs.{List.position_or_len, Str.Lines.{lines, lines_of_parts, strip_carriage_return}}

abbrev pub is_end : ℕ → Bool
is_end b = eqb b 10

-- where `position` found it
pub found_at : (b : Bool) (n i : ℕ) → cond b (Some n) None ≡ Some i → (b ≡ true) × (i ≡ n)
found_at true n i e = (refl, cc)
found_at false n i e = absurd cc

pub not_found : (b : Bool) (n : ℕ) → cond b (Some n) None ≡ None → b ≡ false
not_found true n e = absurd cc
not_found false n e = refl

pub line_of_parts : (part : List ℕ) (parts : List (List ℕ)) → 0 < length parts
    → lines_of_parts (part ∷ parts) ≡ strip_carriage_return part ∷ lines_of_parts parts
line_of_parts part [] h = absurd (omega arith)
line_of_parts part (p ∷ parts) h = refl

-- a text with a line end
pub first_of : (text : List ℕ) (at : ℕ) → at ≡ position_or_len is_end text → at < length text
    → lines text ≡ strip_carriage_return (take at text) ∷ lines (drop (at + 1) text)
first_of text at is lt =
    let split : slice_split is_end text ≡ before_first is_end text ∷ slice_split is_end (after_first is_end text) =
    slice_split_first is_end text 0 (omega arith) in
    let parts = slice_split is_end (after_first is_end text) in
    ap lines_of_parts split ∙ line_of_parts (before_first is_end text) parts
    (omega (arith, length-slice_split is_end (after_first is_end text)))
    ∙ ap (λ (n : ℕ). strip_carriage_return (take n text) ∷ lines (drop (n + 1) text)) (sym is)

not_empty : (n : ℕ) → 0 < n → eqb n 0 ≡ false
not_empty n h = grind (arith, nat_tests)

one_part : (text : List ℕ) → 0 < length text → lines_of_parts (text ∷ []) ≡ text ∷ []
one_part text h = ap (λ (b : Bool). cond b [] (text ∷ [])) (not_empty (length text) h)

not_true : (b : Bool) → not b ≡ true → b ≡ false
not_true true e = absurd cc
not_true false e = refl

-- a text without one
pub whole_of : (text : List ℕ) → 0 < length text → length text ≤ position_or_len is_end text → lines text ≡ text ∷ []
whole_of text some past =
    ap lines_of_parts
    (slice_split_none is_end text
    (λ k d lt. not_true _ (prefix_len_passes (λ b. not (is_end b)) text k d (omega arith)))) ∙ one_part text some
