-- Places of bars fit their width.
use Rattle.std.proofs.Common.{◌≡◌, ◌≤ℤ◌, ◌<ℤ◌, ℤ, pos, negsuc, neg_ℤ, ◌^◌, arith, w64, to_z, of_z, FitsSigned}
use Rattle.std.{proofs.lemmas.Int.{ints, clamps, to_z-of_z}, specs.Int.int_max}

pub fits_width : (z : ℤ) → neg_ℤ (pos (2 ^ 62)) ≤ℤ z → z ≤ℤ pos (2 ^ 62) → FitsSigned w64 z
fits_width (pos n) low high = record { sfits = omega (arith, ints, low, high) }
fits_width (negsuc n) low high = record { sfits = omega (arith, ints, low, high) }

-- the greater of two places lies before a third, where both do
pub max_before : (max a b e : ℤ) → FitsSigned w64 max → FitsSigned w64 a → FitsSigned w64 b
    → max ≡ int_max (to_z w64 (of_z w64 a)) (to_z w64 (of_z w64 b)) → a <ℤ e → b <ℤ e
    → to_z w64 (of_z w64 max) <ℤ e
max_before max a b e fits first second is before then =
    rw (to_z-of_z w64 max fits) (let value = rw (to_z-of_z w64 a first, to_z-of_z w64 b second) at is in
    omega (arith, ints, clamps, value, before, then))
