-- The numbers that a stick text may have.
use Rattle.std.specs.Prelude.{◌<◌, ◌≤◌, ℤ, pos, negsuc}

-- at most 1,000,000 either side of 0
abbrev pub IsNumber : ℤ → Type 0
IsNumber (pos n) = n ≤ 1000000
IsNumber (negsuc n) = n < 1000000
