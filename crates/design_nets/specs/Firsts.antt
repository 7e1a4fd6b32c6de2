-- Lists that stand one after another: how many elements stand before each.
use Rattle.std.specs.{Prelude.{◌≡◌, ℕ, ◌+◌, ◌≤◌, List, length, flat_map, slice_index}, List.range_with_len}

-- the first n of some lists, one after another
abbrev pub together : {A : Type 0} → (ℕ → List A) → ℕ → List A
together lists n = flat_map lists (range_with_len 0 n)

-- Of each of so many lists the number of its first element, where they stand one after another and the first of all
-- has this number; and then the number after the last.
pub record AreFirsts {A : Type 0} (lists : ℕ → List A) (count first : ℕ) (firsts : List ℕ) : Type 0 where
  pub counted : length firsts ≡ count + 1
  pub each : (n : ℕ) → n ≤ count → slice_index firsts n ≡ first + length (together lists n)
