-- The first name of a path, at its first dot.
use Rattle.std.proofs.Common.{◌≡◌, ℕ, ◌+◌, ◌<◌, ◌≤◌, Bool, not, eqb, List, [], ◌∷◌, length, take, drop, sym, ap, ◌∙◌}
use Rattle.std.proofs.{Common.arith, lemmas.List.{Splits.{slice_split_first, slice_split_none}, Sums.prefix_len_passes}}
use Rattle.std.{proofs.lemmas.Bool.not-true, specs.List.{slice_split, before_first, after_first, position_or_len}}
use Rattle.stick_lex.specs.Tokens.{names}

abbrev pub is_dot : ℕ → Bool
is_dot b = eqb b 46

-- a path with a dot
pub first_of : (path : List ℕ) (at : ℕ) → at ≡ position_or_len is_dot path → at < length path
    → names path ≡ take at path ∷ names (drop (at + 1) path)
first_of path at is lt =
    let split : slice_split is_dot path ≡ before_first is_dot path ∷ slice_split is_dot (after_first is_dot path) =
    slice_split_first is_dot path 0 (omega arith) in
    split ∙ ap (λ (n : ℕ). take n path ∷ names (drop (n + 1) path)) (sym is)

-- a path without one
pub whole_of : (path : List ℕ) → length path ≤ position_or_len is_dot path → names path ≡ path ∷ []
whole_of path past =
    slice_split_none is_dot path
    (λ k d lt. not-true _ (prefix_len_passes (λ b. not (is_dot b)) path k d (omega arith)))
