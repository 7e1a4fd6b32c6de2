-- What the numbers of boxes are in a definition's scale.
use Rattle.std.proofs.Common.{◌≡◌, ◌≢◌, ℕ, zero, suc, ◌*◌, ◌/◌, ◌%◌, ◌^◌, ◌<◌, ◌≤◌, ℤ, pos, negsuc, neg_ℤ, ◌*ℤ◌, ◌≤ℤ◌}
use Rattle.std.proofs.Common.{Bool, true, false, not, ◌||◌, eqb, int_lt, unsigned_abs, int_div, int_rem, FitsSigned}
use Rattle.std.proofs.{Common.{of_z, to_z, w64, refl, sym, ap, ◌∙◌, subst, arith}, lemmas.Int.{ints, to_z-of_z}}
use Rattle.std.proofs.lemmas.{Int.{fits_signed_mul, fits_signed_from_abs, unsigned_abs-mul}, Bool.false≢true}
use Rattle.std.proofs.{lemmas.Bool.Decides.Decides-int_eq, Math.Nat.{div-le_self, div-add-mod, div-one, mod-one}}
use Rattle.std.specs.Ordering.{int_eq}
use lib.Signed.{mag_rem}
use borrow.Author.Tests.{eqb-true, ltb-false}
use Rattle.cif_lex.specs.{Words.limit, Commands.is_far, Shifts.is_odd}
use Rattle.cif_read.specs.{Acts.{scaled, is_odd_area, is_bad_length, is_bad_factor, is_bad_area}, Files.IsWithin}
use Rattle.cif_read.specs.{Scales.IsFactor, Readings.IsExtent}

pub distance : (reach : ℕ) (z : ℤ) → IsWithin reach z → unsigned_abs z ≤ reach
distance reach (pos n) h = omega (arith, ints)
distance reach (negsuc n) h = omega (arith, ints)

pub within : (reach : ℕ) (z : ℤ) → unsigned_abs z ≤ reach → IsWithin reach z
within reach (pos n) h = (omega (arith, ints), omega (arith, ints))
within reach (negsuc n) h = (omega (arith, ints), omega (arith, ints))

factor_distance : (a : ℤ) → IsFactor a → unsigned_abs a ≤ 2 ^ 16
factor_distance (pos n) h = omega (arith, ints)
factor_distance (negsuc n) h = absurd (omega (arith, ints))

pub farther : (n : ℤ) → IsWithin (2 ^ 30) n → IsWithin (2 ^ 32) n
farther n near = (omega (arith, ints, near.0), omega (arith, ints, near.1))

pub product_fits : (n a : ℤ) → IsWithin (2 ^ 32) n → IsFactor a → FitsSigned w64 (n *ℤ a)
product_fits n a near factor =
    fits_signed_mul w64 n a (2 ^ 32) (2 ^ 16) (distance (2 ^ 32) n near) (factor_distance a factor) (omega arith)

pub is_no : (b : Bool) → (b ≡ true → ⊥) → b ≡ false
is_no true h = absurd (h refl)
is_no false h = refl

int_eq_no : (x y : ℤ) → (x ≡ y → ⊥) → int_eq x y ≡ false
int_eq_no x y h = is_no (int_eq x y) (λ e. h ((Decides-int_eq x y).0 e))

pub zero_test : (z : ℤ) → FitsSigned w64 z → not (eqb (of_z w64 z) 0) ≡ not (int_eq z (pos 0))
zero_test (pos zero) h = refl
zero_test (pos (suc n)) h =
    ap not (is_no (eqb (suc n) 0) (λ e. omega (arith, eqb-true (suc n) 0 e))
    ∙ sym (int_eq_no (pos (suc n)) (pos 0) (λ e. cc)))
zero_test (negsuc n) h =
    let more : of_z w64 (negsuc n) ≢ 0 = omega (arith, h.sfits) in
    ap not (is_no (eqb (of_z w64 (negsuc n)) 0) (λ e. more (eqb-true (of_z w64 (negsuc n)) 0 e))
    ∙ sym (int_eq_no (negsuc n) (pos 0) (λ e. cc)))

-- what the code's remainder says
pub odd_test : (n a b : ℤ) → FitsSigned w64 n → FitsSigned w64 a → FitsSigned w64 b → FitsSigned w64 (n *ℤ a)
    → not (eqb
    (of_z w64
    (int_rem (to_z w64 (of_z w64 (to_z w64 (of_z w64 n) *ℤ to_z w64 (of_z w64 a))))
    (to_z w64 (of_z w64 b)))) 0) ≡ is_odd a b n
odd_test n a b fn fa fb fp =
    let fits : FitsSigned w64 (int_rem (n *ℤ a) b) = record { sfits = omega (arith, mag_rem (n *ℤ a) b, fp.sfits) } in
    rw (to_z-of_z w64 n fn, to_z-of_z w64 a fa, to_z-of_z w64 b fb, to_z-of_z w64 (n *ℤ a) fp)
    (zero_test (int_rem (n *ℤ a) b) fits)

-- what the code's quotient is
pub quotient_is : (n a b : ℤ) → FitsSigned w64 n → FitsSigned w64 a → FitsSigned w64 b → FitsSigned w64 (n *ℤ a)
    → FitsSigned w64 (scaled a b n)
    → to_z w64
    (of_z w64
    (int_div (to_z w64 (of_z w64 (to_z w64 (of_z w64 n) *ℤ to_z w64 (of_z w64 a))))
    (to_z w64 (of_z w64 b)))) ≡ scaled a b n
quotient_is n a b fn fa fb fp fq =
    rw (to_z-of_z w64 n fn, to_z-of_z w64 a fa, to_z-of_z w64 b fb, to_z-of_z w64 (n *ℤ a) fp)
    (to_z-of_z w64 (scaled a b n) fq)

-- what the code multiplies and divides fits
pub product_held : (n a : ℤ) → FitsSigned w64 n → FitsSigned w64 a → FitsSigned w64 (n *ℤ a)
    → FitsSigned w64 (to_z w64 (of_z w64 n) *ℤ to_z w64 (of_z w64 a))
product_held n a fn fa fp = rw (to_z-of_z w64 n fn, to_z-of_z w64 a fa) fp

pub factor_held : (b : ℤ) → IsFactor b → 0 < of_z w64 b
factor_held (pos n) h = omega (arith, ints, h)
factor_held (negsuc n) h = absurd (omega (arith, ints))

pub quotient_held : (n a b : ℤ) → FitsSigned w64 n → FitsSigned w64 a → FitsSigned w64 b → FitsSigned w64 (n *ℤ a)
    → FitsSigned w64 (int_div (n *ℤ a) b)
    → FitsSigned w64
    (int_div (to_z w64 (of_z w64 (to_z w64 (of_z w64 n) *ℤ to_z w64 (of_z w64 a)))) (to_z w64 (of_z w64 b)))
quotient_held n a b fn fa fb fp fq =
    rw (to_z-of_z w64 n fn, to_z-of_z w64 a fa, to_z-of_z w64 b fb, to_z-of_z w64 (n *ℤ a) fp) fq

abs_neg : (n : ℕ) → unsigned_abs (neg_ℤ (pos n)) ≡ n
abs_neg zero = refl
abs_neg (suc n) = refl

-- ---- without a divisor

one_factor : (b : ℤ) → IsFactor b → of_z w64 b ≡ 1 → b ≡ pos 1
one_factor (pos n) h e = ap pos (omega (arith, ints, h, e))
one_factor (negsuc n) h e = absurd (omega (arith, ints))

by_one : (z : ℤ) → int_div z (pos 1) ≡ z
by_one (pos n) = ap pos (div-one n)
by_one (negsuc n) = ap (λ (k : ℕ). neg_ℤ (pos k)) (div-one (suc n))

none_left : (z : ℤ) → int_rem z (pos 1) ≡ pos 0
none_left (pos n) = ap pos (mod-one n)
none_left (negsuc n) = ap (λ (k : ℕ). neg_ℤ (pos k)) (mod-one (suc n))

pub even_undivided : (n a b : ℤ) → IsFactor b → of_z w64 b ≡ 1 → false ≡ is_odd a b n
even_undivided n a b factor e =
    sym (ap (λ (d : ℤ). is_odd a d n) (one_factor b factor e)
    ∙ ap (λ (z : ℤ). not (int_eq z (pos 0))) (none_left (n *ℤ a)))

pub undivided_is : (n a b : ℤ) → FitsSigned w64 n → FitsSigned w64 a → FitsSigned w64 (n *ℤ a) → IsFactor b
    → of_z w64 b ≡ 1
    → to_z w64 (of_z w64 (to_z w64 (of_z w64 n) *ℤ to_z w64 (of_z w64 a))) ≡ scaled a b n
undivided_is n a b fn fa fp factor e =
    rw (to_z-of_z w64 n fn, to_z-of_z w64 a fa)
    (to_z-of_z w64 (n *ℤ a) fp
    ∙ sym (ap (λ (d : ℤ). scaled a d n) (one_factor b factor e) ∙ by_one (n *ℤ a)))

-- ---- how far quotients are

quotient_distance : (z b : ℤ) (reach : ℕ) → unsigned_abs z ≤ reach → unsigned_abs (int_div z b) ≤ reach
quotient_distance (pos z) (pos b) reach h = omega (arith, div-le_self z b)
quotient_distance (pos z) (negsuc b) reach h = omega (arith, abs_neg (z / suc b), div-le_self z (suc b))
quotient_distance (negsuc z) (pos b) reach h = omega (arith, abs_neg (suc z / b), div-le_self (suc z) b)
quotient_distance (negsuc z) (negsuc b) reach h = omega (arith, div-le_self (suc z) (suc b))

product_le : (m n p q : ℕ) → m ≤ p → n ≤ q → m * n ≤ p * q
product_le m n p q h k = grind arith

pub scaled_within : (n a b : ℤ) → IsWithin (2 ^ 30) n → IsFactor a → IsWithin (2 ^ 46) (scaled a b n)
scaled_within n a b near factor =
    let product : unsigned_abs (n *ℤ a) ≤ 2 ^ 46 =
    omega (
      arith,
      unsigned_abs-mul n a,
      product_le (unsigned_abs n) (unsigned_abs a) (2 ^ 30) (2 ^ 16)
          (distance (2 ^ 30) n near) (factor_distance a factor),
    ) in
    within (2 ^ 46) (scaled a b n) (quotient_distance (n *ℤ a) b (2 ^ 46) product)

quotient_positive : (k p q : ℕ) → 0 < k → 0 < p → 0 < q → (k * p) % q ≡ 0 → 0 < k * p / q
quotient_positive k p q hk hp hq e = grind (arith, div-add-mod (k * p) q)

yes_from : (b : Bool) → not b ≡ false → b ≡ true
yes_from true h = refl
yes_from false h = absurd (false≢true (sym h))

is_even : (m : ℕ) → not (int_eq (pos m) (pos 0)) ≡ false → m ≡ 0
is_even m h =
    let same : pos m ≡ pos 0 = (Decides-int_eq (pos m) (pos 0)).0 (yes_from (int_eq (pos m) (pos 0)) h) in
    cc

-- a length that comes out even is no less than a hundredth of a micron
pub scaled_positive : (n a b : ℤ) → IsFactor a → IsFactor b → is_odd a b n ≡ false → pos 1 ≤ℤ n → pos 1 ≤ℤ scaled a b n
scaled_positive (negsuc n) a b fa fb even some = absurd (omega (arith, ints))
scaled_positive (pos n) (negsuc a) b fa fb even some = absurd (omega (arith, ints))
scaled_positive (pos n) (pos a) (negsuc b) fa fb even some = absurd (omega (arith, ints))
scaled_positive (pos n) (pos a) (pos b) fa fb even some =
    let more : 0 < n * a / b = quotient_positive n a b (omega (arith, ints)) (omega (arith, ints))
    (omega (arith, ints)) (is_even (n * a % b) even) in
    omega (arith, ints)

pub quotient_fits : (n a b : ℤ) → IsWithin (2 ^ 32) n → IsFactor a → FitsSigned w64 (scaled a b n)
quotient_fits n a b near factor =
    let product : unsigned_abs (n *ℤ a) ≤ 2 ^ 48 =
    omega (
      arith,
      unsigned_abs-mul n a,
      product_le (unsigned_abs n) (unsigned_abs a) (2 ^ 32) (2 ^ 16)
          (distance (2 ^ 32) n near) (factor_distance a factor),
    ) in
    fits_signed_from_abs w64 (scaled a b n) (omega (arith, quotient_distance (n *ℤ a) b (2 ^ 48) product))

-- ---- the numbers of a box

-- lengths are at least 1, and no number is far
pub record IsGoodArea (l w x y : ℤ) : Type 0 where
  pub long : pos 1 ≤ℤ l
  pub wide : pos 1 ≤ℤ w
  pub l_near : IsWithin (2 ^ 30) l
  pub w_near : IsWithin (2 ^ 30) w
  pub x_near : IsWithin (2 ^ 30) x
  pub y_near : IsWithin (2 ^ 30) y

pub neither : (a b : Bool) → (a || b) ≡ false → (a ≡ false) × (b ≡ false)
neither true b h = absurd (false≢true (sym h))
neither false b h = (refl, h)

pub near_from : (n : ℤ) → is_far n ≡ false → IsWithin (2 ^ 30) n
near_from n h = within (2 ^ 30) n (omega (arith, ltb-false limit (unsigned_abs n) h))

at_least_one : (n : ℤ) → int_lt n (pos 1) ≡ false → pos 1 ≤ℤ n
at_least_one n h = grind (arith, ints)

at_most : (n : ℤ) (m : ℕ) → int_lt (pos m) n ≡ false → n ≤ℤ pos m
at_most n m h = grind (arith, ints)

pub good_area : (l w x y : ℤ) → is_bad_area l w x y ≡ false → IsGoodArea l w x y
good_area l w x y h =
    let all = neither (is_bad_length l || is_bad_length w || is_far x) (is_far y) h in
    let rest = neither (is_bad_length l || is_bad_length w) (is_far x) all.0 in
    let lengths = neither (is_bad_length l) (is_bad_length w) rest.0 in
    let long = neither (int_lt l (pos 1)) (is_far l) lengths.0 in
    let wide = neither (int_lt w (pos 1)) (is_far w) lengths.1 in
    record {
      long = at_least_one l long.0;
      wide = at_least_one w wide.0;
      l_near = near_from l long.1;
      w_near = near_from w wide.1;
      x_near = near_from x rest.1;
      y_near = near_from y all.1;
    }

-- of a box whose numbers come out even
pub record IsEvenArea (above below l w x y : ℤ) : Type 0 where
  pub l_even : is_odd above below l ≡ false
  pub w_even : is_odd above below w ≡ false
  pub x_even : is_odd above below x ≡ false
  pub y_even : is_odd above below y ≡ false

pub even_area : (above below l w x y : ℤ) → is_odd_area above below l w x y ≡ false → IsEvenArea above below l w x y
even_area above below l w x y h =
    let odd = is_odd above below in
    let all = neither (odd l || odd w || odd x) (odd y) h in
    let rest = neither (odd l || odd w) (odd x) all.0 in
    let lengths = neither (odd l) (odd w) rest.0 in
    record { l_even = lengths.0; w_even = lengths.1; x_even = rest.1; y_even = all.1 }

-- what the code sees
pub seen_within : (reach : ℕ) (n : ℤ) → FitsSigned w64 n → IsWithin reach n → IsWithin reach (to_z w64 (of_z w64 n))
seen_within reach n fits h = subst (IsWithin reach) (sym (to_z-of_z w64 n fits)) h

near_fits : (n : ℤ) → IsWithin (2 ^ 46) n → FitsSigned w64 n
near_fits n h = fits_signed_from_abs w64 n (omega (arith, distance (2 ^ 46) n h))

pub seen_some : (n : ℤ) → FitsSigned w64 n → pos 1 ≤ℤ n → pos 1 ≤ℤ to_z w64 (of_z w64 n)
seen_some n fits h = subst (λ z. pos 1 ≤ℤ z) (sym (to_z-of_z w64 n fits)) h

pub seen_extent : (n : ℤ) → pos 1 ≤ℤ n → IsWithin (2 ^ 46) n → IsExtent (to_z w64 (of_z w64 n))
seen_extent n some h = subst IsExtent (sym (to_z-of_z w64 n (near_fits n h))) (some, h.1)

pub seen_value : (n m : ℤ) → IsWithin (2 ^ 46) n → n ≡ m → to_z w64 (of_z w64 n) ≡ m
seen_value n m h e = to_z-of_z w64 n (near_fits n h) ∙ e

pub factor_fits : (a : ℤ) → IsFactor a → FitsSigned w64 a
factor_fits a h = fits_signed_from_abs w64 a (omega (arith, factor_distance a h))

pub seen_odd : (above below n : ℤ) → IsFactor above → IsFactor below → FitsSigned w64 n
    → is_odd (to_z w64 (of_z w64 above)) (to_z w64 (of_z w64 below)) (to_z w64 (of_z w64 n)) ≡ is_odd above below n
seen_odd above below n fa fb fn =
    rw (to_z-of_z w64 above (factor_fits above fa), to_z-of_z w64 below (factor_fits below fb), to_z-of_z w64 n fn) refl

pub seen_scaled : (above below n : ℤ) → IsFactor above → IsFactor below → FitsSigned w64 n
    → scaled (to_z w64 (of_z w64 above)) (to_z w64 (of_z w64 below)) (to_z w64 (of_z w64 n)) ≡ scaled above below n
seen_scaled above below n fa fb fn =
    rw (to_z-of_z w64 above (factor_fits above fa), to_z-of_z w64 below (factor_fits below fb), to_z-of_z w64 n fn) refl

-- four numbers at once
pub seen_all : {T : Type 0} (f : ℤ → ℤ → ℤ → ℤ → T) (l w x y : ℤ) → FitsSigned w64 l → FitsSigned w64 w
    → FitsSigned w64 x → FitsSigned w64 y
    → f (to_z w64 (of_z w64 l)) (to_z w64 (of_z w64 w)) (to_z w64 (of_z w64 x)) (to_z w64 (of_z w64 y)) ≡ f l w x y
seen_all f l w x y fl fw fx fy =
    rw (to_z-of_z w64 l fl, to_z-of_z w64 w fw, to_z-of_z w64 x fx, to_z-of_z w64 y fy) refl

pub factor_from : (a : ℤ) → is_bad_factor a ≡ false → IsFactor a
factor_from a h =
    let parts = neither (int_lt a (pos 1)) (int_lt (pos 65536) a) h in
    (at_least_one a parts.0, at_most a 65536 parts.1)
