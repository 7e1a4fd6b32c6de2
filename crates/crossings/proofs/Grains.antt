-- A length of the technology in grains is a product of two small numbers.
use Rattle.std.proofs.Common.{◌≡◌, ◌*◌, ◌^◌, ◌≤◌, ℤ, pos, negsuc, ◌≤ℤ◌, ◌*ℤ◌, sym, ap, ◌∙◌, subst, of_z, to_z, w64}
use Rattle.std.proofs.{Common.arith, Math.Nat.mul-le-mul, lemmas.Int.{ints, to_z-of_z}}
use Rattle.rule_table.specs.{Bounds.IsLength, declared.technology.Tech.Tech}
use Rattle.box_tree.{specs.Queries.IsMargin, proofs.Within.margin_held}
use Rattle.crossing_model.specs.Boxes.{grains}
use mir.Val.{SFits}

abbrev pub IsSmallProduct : ℤ → ℤ → Type 0
IsSmallProduct a b = (pos 0 ≤ℤ (a *ℤ (pos 2 *ℤ b))) × ((a *ℤ (pos 2 *ℤ b)) ≤ℤ pos (2 ^ 25))

pub small_product : (a b : ℤ) → IsLength a → IsLength b → IsSmallProduct a b
small_product (pos a) (pos b) h k =
    let first : a ≤ 4096 = omega (arith, ints, h) in
    let second : 2 * b ≤ 2 * 4096 = omega (arith, ints, k) in
    let below : a * (2 * b) ≤ 4096 * (2 * 4096) = mul-le-mul first second in
    (omega (arith, ints), omega (arith, ints, below))
small_product (negsuc a) b h k = absurd (omega (arith, ints, h))
small_product (pos a) (negsuc b) h k = absurd (omega (arith, ints, k))

abbrev pub held : ℤ → ℤ
held z = to_z w64 (of_z w64 z)

-- no product on the way wraps
pub product_held : (a b : ℤ) → IsLength a → IsLength b → held (held a *ℤ held (pos 2 *ℤ held b)) ≡ a *ℤ (pos 2 *ℤ b)
product_held a b h k =
    let first : SFits w64 a = omega (arith, ints, h) in
    let second : SFits w64 b = omega (arith, ints, k) in
    let doubled : SFits w64 (pos 2 *ℤ b) = omega (arith, ints, k) in
    let small = small_product a b h k in
    let product : SFits w64 (a *ℤ (pos 2 *ℤ b)) = omega (arith, ints, small.0, small.1) in
    simp to_z-of_z

-- what is passed on is the length in grains
pub grains_held : (tech : Tech) (n m r : ℤ) → IsLength n → n ≡ m → pos 0 ≤ℤ r → r ≤ℤ pos (2 ^ 25)
    → r ≡ grains tech (held n) → held r ≡ grains tech m
grains_held tech n m r h same low high is =
    let first : SFits w64 n = omega (arith, ints, h) in
    let second : SFits w64 r = omega (arith, ints) in
    to_z-of_z w64 r second ∙ (is ∙ ap (grains tech) (to_z-of_z w64 n first ∙ same))

-- a margin that is passed on is one
pub margin_passed : (margin : ℤ) → IsMargin margin → IsMargin (held margin)
margin_passed margin h = subst IsMargin (sym (margin_held margin h)) h

pub margin_of_grains : (r : ℤ) → pos 0 ≤ℤ r → r ≤ℤ pos (2 ^ 25) → IsMargin r
margin_of_grains r low high = (low, omega (arith, ints, high))
