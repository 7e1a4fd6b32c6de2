-- Sums and products of signed numbers: a scale that is whole, and lengths in grains.
use Rattle.std.proofs.Common.{◌≡◌, ℕ, suc, ◌*◌, ◌/◌, ◌%◌, ℤ, pos, negsuc, neg_ℤ, ◌+ℤ◌, ◌-ℤ◌, ◌*ℤ◌, ◌≤ℤ◌, int_lt}
use Rattle.std.proofs.{Common.{int_div, int_rem, false, sym, ap, ◌∙◌, arith, div-one}, lemmas.Int.ints}
use Rattle.std.proofs.Math.IntN.{*ℤ_comm, +ℤ_comm}
use borrow.Author.Differences.{up, down, sum_is_lem, neg_is, product_is}

-- ---- by 1

pub over_one : (z : ℤ) → int_div z (pos 1) ≡ z
over_one (pos n) = ap pos (div-one n)
over_one (negsuc n) = ap (λ (m : ℕ). neg_ℤ (pos m)) (div-one (suc n))

none_left : (n : ℕ) → int_rem (pos n) (pos 1) ≡ pos 0
none_left n = ap pos (let e : n % 1 ≡ 0 = omega arith in e)

pub left_by_one : (z : ℤ) → int_rem z (pos 1) ≡ pos 0
left_by_one (pos n) = none_left n
left_by_one (negsuc n) = ap neg_ℤ (none_left (suc n))

-- half of a double
pub half_of : (u half : ℤ) → u ≡ pos 2 *ℤ half → pos 1 ≤ℤ half → int_div u (pos 2) ≡ half
half_of u (pos n) e least = ap (λ (z : ℤ). int_div z (pos 2)) e ∙ ap pos (let h : (2 * n) / 2 ≡ n = omega arith in h)
half_of u (negsuc n) e least = absurd (omega (arith, ints, least))

-- ---- orders that do not hold

pub not_below : (a b : ℤ) → b ≤ℤ a → int_lt a b ≡ false
not_below a b h = grind (arith, ints)

-- ---- sums and products

sum_times : (a b u : ℤ) → (a +ℤ b) *ℤ u ≡ a *ℤ u +ℤ b *ℤ u
sum_times a b u =
    let e = sum_is_lem a b in
    let first = ap (λ (n : ℕ). n * up u) e in
    let second = ap (λ (n : ℕ). n * down u) e in
    omega (arith, ints, first, second)

negative_times : (a u : ℤ) → neg_ℤ a *ℤ u ≡ neg_ℤ (a *ℤ u)
negative_times a u =
    let e = neg_is a in
    omega (
      arith,
      ints,
      ap (λ (n : ℕ). n * up u) e.0,
      ap (λ (n : ℕ). n * down u) e.0,
      ap (λ (n : ℕ). n * up u) e.1,
      ap
          (λ (n : ℕ). n * down u) e.1,
    )

-- a factor of 2 moves
pub shift : (x u : ℤ) → pos 2 *ℤ (x *ℤ u) ≡ x *ℤ (pos 2 *ℤ u)
shift x u =
    let e = product_is (pos 2) u in
    omega (
      arith,
      ints,
      ap (λ (n : ℕ). up x * n) e.0,
      ap (λ (n : ℕ). down x * n) e.0,
      ap (λ (n : ℕ). up x * n) e.1,
      ap
          (λ (n : ℕ). down x * n) e.1,
    )

double_times : (x u : ℤ) → (pos 2 *ℤ x) *ℤ u ≡ pos 2 *ℤ (x *ℤ u)
double_times x u = *ℤ_comm (pos 2 *ℤ x) u ∙ (sym (shift u x) ∙ ap (λ (z : ℤ). pos 2 *ℤ z) (*ℤ_comm u x))

-- ---- lengths in grains

low_end : (a b sum gap twice whole : ℤ) → sum ≡ a +ℤ b → gap ≡ b +ℤ neg_ℤ a → twice ≡ pos 2 *ℤ gap
    → whole ≡ pos 2 *ℤ (pos 2 *ℤ a) → (pos 2 *ℤ sum) -ℤ twice ≡ whole
low_end a b sum gap twice whole e f g h = omega (arith, ints)

high_end : (a b sum gap twice whole : ℤ) → sum ≡ a +ℤ b → gap ≡ b +ℤ neg_ℤ a → twice ≡ pos 2 *ℤ gap
    → whole ≡ pos 2 *ℤ (pos 2 *ℤ b) → (pos 2 *ℤ sum) +ℤ twice ≡ whole
high_end a b sum gap twice whole e f g h = omega (arith, ints)

gap_times : (a b h : ℤ) → (b -ℤ a) *ℤ h ≡ b *ℤ h +ℤ neg_ℤ (a *ℤ h)
gap_times a b h = sum_times b (neg_ℤ a) h ∙ ap (λ (z : ℤ). b *ℤ h +ℤ z) (negative_times a h)

grains : (a h u : ℤ) → u ≡ pos 2 *ℤ h → a *ℤ (pos 2 *ℤ u) ≡ pos 2 *ℤ (pos 2 *ℤ (a *ℤ h))
grains a h u e = sym (shift a u) ∙ (ap (λ (z : ℤ). pos 2 *ℤ (a *ℤ z)) e ∙ ap (λ (z : ℤ). pos 2 *ℤ z) (sym (shift a h)))

-- the ends of a box, from its centre and its extent in halves of u
pub lower : (a b h u : ℤ) → u ≡ pos 2 *ℤ h
    → (pos 2 *ℤ ((a +ℤ b) *ℤ h)) -ℤ ((pos 2 *ℤ (b -ℤ a)) *ℤ h) ≡ a *ℤ (pos 2 *ℤ u)
lower a b h u e =
    low_end (a *ℤ h) (b *ℤ h) ((a +ℤ b) *ℤ h) ((b -ℤ a) *ℤ h) ((pos 2 *ℤ (b -ℤ a)) *ℤ h) (a *ℤ (pos 2 *ℤ u))
    (sum_times a b h) (gap_times a b h) (double_times (b -ℤ a) h) (grains a h u e)

pub upper : (a b h u : ℤ) → u ≡ pos 2 *ℤ h
    → (pos 2 *ℤ ((a +ℤ b) *ℤ h)) +ℤ ((pos 2 *ℤ (b -ℤ a)) *ℤ h) ≡ b *ℤ (pos 2 *ℤ u)
upper a b h u e =
    high_end (a *ℤ h) (b *ℤ h) ((a +ℤ b) *ℤ h) ((b -ℤ a) *ℤ h) ((pos 2 *ℤ (b -ℤ a)) *ℤ h) (b *ℤ (pos 2 *ℤ u))
    (sum_times a b h) (gap_times a b h) (double_times (b -ℤ a) h) (grains b h u e)

pub moved_side : (a x u : ℤ) → a *ℤ u +ℤ x *ℤ u ≡ (x +ℤ a) *ℤ u
moved_side a x u = +ℤ_comm (a *ℤ u) (x *ℤ u) ∙ sym (sum_times x a u)
