-- The stretches into which a layout is cut.
use Rattle.std.specs.{Prelude.{ℕ, ◌^◌, ◌/◌, ◌<◌, min, ℤ, ◌-ℤ◌}, Int.{int_max, RustNames.unsigned_abs}}
use Rattle.scan_line.specs.declared.stretches.Stretches.{Stretches}

-- how far a place lies above a base: 0 where it lies below
abbrev pub height_above : ℤ → ℤ → ℕ
height_above base place = unsigned_abs (int_max place base -ℤ base)

-- the number of the stretch in which a place lies: the first has all below it, and the last all above
abbrev pub stretch_of : Stretches → ℤ → ℕ
stretch_of s place = min (height_above s.base place / s.length) s.last

-- the stretches have a length, and are not too many to be numbered
pub record IsCut (s : Stretches) : Type 0 where
  pub some_length : 0 < s.length
  pub few : s.last < 2 ^ 33
