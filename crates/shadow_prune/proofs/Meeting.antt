-- When bars meet, in numbers.
use Rattle.std.proofs.Common.{◌≡◌, ℤ, pos, ◌+ℤ◌, ◌-ℤ◌, ◌*ℤ◌, ◌<ℤ◌, arith}
use Rattle.std.proofs.lemmas.Int.{ints, clamps}
use Rattle.lam_geom.specs.Gaps.{gap_between}

-- two spans, each with its reach past both ends, on a scale on which lengths count twice; together they reach twice a
-- spacing
pub meet_if_near : (a b c d r q s : ℤ) → (r +ℤ q) ≡ (pos 2 *ℤ s) → gap_between a b c d <ℤ s
    → (((pos 2 *ℤ a) -ℤ r) <ℤ ((pos 2 *ℤ d) +ℤ q)) × (((pos 2 *ℤ c) -ℤ q) <ℤ ((pos 2 *ℤ b) +ℤ r))
meet_if_near a b c d r q s both near = (omega (arith, ints, clamps), omega (arith, ints, clamps))

pub near_if_meet : (a b c d r q s : ℤ) → (r +ℤ q) ≡ (pos 2 *ℤ s)
    → ((pos 2 *ℤ a) -ℤ r) <ℤ ((pos 2 *ℤ d) +ℤ q) → ((pos 2 *ℤ c) -ℤ q) <ℤ ((pos 2 *ℤ b) +ℤ r)
    → gap_between a b c d <ℤ s
near_if_meet a b c d r q s both first second = omega (arith, ints, clamps)
