-- The factors of a scale.
use Rattle.std.specs.Prelude.{◌^◌, ℤ, pos, ◌≤ℤ◌}
use Rattle.cif_read.specs.declared.scale.Scale.{Scale}

abbrev pub IsFactor : ℤ → Type 0
IsFactor n = (pos 1 ≤ℤ n) × (n ≤ℤ pos (2 ^ 16))

pub record IsScale (scale : Scale) : Type 0 where
  pub above : IsFactor scale.above
  pub below : IsFactor scale.below
