-- Sets of numbers below a bound, as a flag for each number.
use Rattle.std.specs.Prelude.{◌≡◌, ℕ, ◌*◌, ◌/◌, ◌^◌, ◌<◌, ◌≤◌, Bool, true, false, List, length, slice_index_or}

-- whether a number is marked; none beyond the bound is
abbrev pub is_marked : List Bool → ℕ → Bool
is_marked flags n = slice_index_or flags n false

-- no number from one on and below another is marked
abbrev pub AreUnmarked : List Bool → ℕ → ℕ → Type 0
AreUnmarked flags start end = (n : ℕ) → start ≤ n → n < end → is_marked flags n ≡ false

-- the least marked number from one on and below another
pub record IsNextMark (flags : List Bool) (start end n : ℕ) : Type 0 where
  pub from_start : start ≤ n
  pub below_end : n < end
  pub marked : is_marked flags n ≡ true
  pub least : AreUnmarked flags start n

-- a flag for each block of 256 numbers: that of a marked number is marked
pub record AreBlocksOf (blocks flags : List Bool) : Type 0 where
  pub few : length flags ≤ 2 ^ 32
  pub enough : length flags ≤ 256 * length blocks
  pub of_marked : (n : ℕ) → n < length flags → is_marked flags n ≡ true → is_marked blocks (n / 256) ≡ true
