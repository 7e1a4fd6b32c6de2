-- Numbers in ranges, one after another.
use Rattle.std.specs.Prelude.{◌≡◌, ℕ, ◌≤◌, List, [], ◌∷◌}
use Rattle.par_phase.specs.declared.ranges.Range.{Range}

-- ranges one after another, from here to there
abbrev pub AreRanges : ℕ → List Range → ℕ → Type 0
AreRanges from [] to = from ≡ to
AreRanges from (range ∷ rest) to = (range.from ≡ from) × (range.from ≤ range.to) × AreRanges range.to rest to
