-- A coordinate in grains is a product that fits.
use Rattle.std.proofs.Common.{◌≡◌, zero, suc, ◌*◌, ◌^◌, ◌≤◌, ℤ, pos, negsuc, neg_ℤ, ◌≤ℤ◌, ◌+ℤ◌, ◌*ℤ◌, ap, ◌∙◌, of_z}
use Rattle.std.proofs.{Common.{to_z, w64, arith}, Math.Nat.mul-le-mul, lemmas.Int.{ints, to_z-of_z}}
use Rattle.lam_geom.specs.Places.{IsPlace}
use Rattle.rule_table.specs.{Bounds.IsLength, declared.technology.Tech.Tech, Technology.numbers_of}
use Rattle.crossing_model.specs.Boxes.{grains}
use Rattle.instance_laws.proofs.NetlistScale.{scaled, scale_positive}
use mir.Val.{SFits}

abbrev pub IsNearProduct : ℤ → ℤ → Type 0
IsNearProduct a b = (neg_ℤ (pos (2 ^ 55)) ≤ℤ (a *ℤ (pos 2 *ℤ b))) × ((a *ℤ (pos 2 *ℤ b)) ≤ℤ pos (2 ^ 55))

pub near_product : (a b : ℤ) → neg_ℤ (pos (2 ^ 40)) ≤ℤ a → a ≤ℤ pos (2 ^ 42) → IsLength b → IsNearProduct a b
near_product (pos a) (pos b) low high k =
    let first : a ≤ 2 ^ 42 = omega (arith, ints, high) in
    let second : 2 * b ≤ 2 * 4096 = omega (arith, ints, k) in
    let below : a * (2 * b) ≤ 2 ^ 42 * (2 * 4096) = mul-le-mul first second in
    (omega (arith, ints), omega (arith, ints, below))
near_product (negsuc a) (pos zero) low high k = (omega (arith, ints), omega (arith, ints))
near_product (negsuc a) (pos (suc b)) low high k =
    let s : ℤ = pos 2 *ℤ pos (suc b) in
    let above = scaled s (neg_ℤ (pos (2 ^ 40))) (negsuc a) (omega (arith, ints)) low in
    let below = scaled s (negsuc a) (pos 0) (omega (arith, ints)) (omega (arith, ints)) in
    (omega (arith, ints, above, k), omega (arith, ints, below))
near_product (pos a) (negsuc b) low high k = absurd (omega (arith, ints, k))
near_product (negsuc a) (negsuc b) low high k = absurd (omega (arith, ints, k))

abbrev held : ℤ → ℤ
held z = to_z w64 (of_z w64 z)

-- no product on the way wraps
pub near_held : (a b : ℤ) → neg_ℤ (pos (2 ^ 40)) ≤ℤ a → a ≤ℤ pos (2 ^ 42) → IsLength b
    → to_z w64 (of_z w64 a) *ℤ to_z w64 (of_z w64 (pos 2 *ℤ to_z w64 (of_z w64 b))) ≡ a *ℤ (pos 2 *ℤ b)
near_held a b low high k =
    let first : SFits w64 a = omega (arith, ints, low, high) in
    let second : SFits w64 b = omega (arith, ints, k) in
    let doubled : SFits w64 (pos 2 *ℤ b) = omega (arith, ints, k) in
    simp to_z-of_z

pub near_fits : (a b : ℤ) → neg_ℤ (pos (2 ^ 40)) ≤ℤ a → a ≤ℤ pos (2 ^ 42) → IsLength b
    → to_z w64 (of_z w64 (a *ℤ (pos 2 *ℤ b))) ≡ a *ℤ (pos 2 *ℤ b)
near_fits a b low high k =
    let near = near_product a b low high k in
    let product : SFits w64 (a *ℤ (pos 2 *ℤ b)) = omega (arith, ints, near.0, near.1) in
    to_z-of_z w64 (a *ℤ (pos 2 *ℤ b)) product

-- a place that is shifted, and then made grains
pub shifted_held : (tech : Tech) (by z r : ℤ) → (pos 0 ≤ℤ by) × (by ≤ℤ pos (2 ^ 41)) → neg_ℤ (pos (2 ^ 40)) ≤ℤ z
    → z ≤ℤ pos (2 ^ 40) → r ≡ grains tech (to_z w64 (of_z w64 (to_z w64 (of_z w64 by) +ℤ to_z w64 (of_z w64 z))))
    → IsPlace r
    → to_z w64 (of_z w64 r) ≡ grains tech (by +ℤ z)
shifted_held tech by z r within low high is placed =
    let first : SFits w64 by = omega (arith, ints, within.0, within.1) in
    let second : SFits w64 z = omega (arith, ints, low, high) in
    let sum : SFits w64 (by +ℤ z) = omega (arith, ints, within.0, within.1, low, high) in
    let own : SFits w64 r = omega (arith, ints, placed.0, placed.1) in
    to_z-of_z w64 r own
    ∙ (is ∙ (ap (λ (a : ℤ). grains tech (to_z w64 (of_z w64 (a +ℤ to_z w64 (of_z w64 z))))) (to_z-of_z w64 by first)
    ∙ (ap (λ (b : ℤ). grains tech (to_z w64 (of_z w64 (by +ℤ b)))) (to_z-of_z w64 z second)
    ∙ ap (grains tech) (to_z-of_z w64 (by +ℤ z) sum))))

pub grains_ordered : (tech : Tech) (by a b : ℤ) → a ≤ℤ b → grains tech (by +ℤ a) ≤ℤ grains tech (by +ℤ b)
grains_ordered tech by a b h =
    scaled (pos 2 *ℤ (numbers_of tech).unit) (by +ℤ a) (by +ℤ b) (scale_positive tech) (omega (arith, ints, h))
