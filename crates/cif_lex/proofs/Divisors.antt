-- Which scales the greatest common divisor of some numbers tells from whole ones.
use Rattle.std.proofs.Common.{◌≡◌, ℕ, zero, suc, ◌+◌, ◌*◌, ◌/◌, ◌%◌, ◌<◌, ◌≤◌, ℤ, pos, negsuc, neg_ℤ, ◌*ℤ◌, int_rem}
use Rattle.std.proofs.Common.{unsigned_abs, [], ◌∷◌, Bool, true, false, not, ◌||◌, ◌↔◌, refl, sym, ap, ◌∙◌, subst}
use Rattle.std.proofs.{Common.arith, Math.{Bool.{or_assoc, or-false}, Nat.{div-add-mod, mod-lt, mul_right_comm}}}
use Rattle.std.proofs.Math.Nat.{mod-eq_of_lt, dvd-mul_right, dvd-mul_right_of_dvd, dvd-add_iff_right}
use Rattle.std.proofs.lemmas.{Int.unsigned_abs-mul, Bool.{false≢true, or_from, or_parts, Decides.Decides-int_eq}}
use Rattle.std.proofs.lemmas.Nat.Gcd.{dvd-zero, dvd_antisymm, dvd_of_mod-eq-zero, mod-eq-zero_of_dvd}
use Rattle.std.specs.{Int.◌∣◌, List.list_any}
use Rattle.cif_lex.specs.declared.placement.Transformation.{Transformation, TheVariants.Shift}
use Rattle.cif_lex.specs.Shifts.{is_odd, is_odd_shift, IsOddWhere}

-- ---- tests that are no at the same time

pub both_ways : (x y : Bool) → (x ≡ false → y ≡ false) → (y ≡ false → x ≡ false) → x ≡ y
both_ways true true h k = refl
both_ways true false h k = k refl
both_ways false true h k = sym (h refl)
both_ways false false h k = refl

no_from : (b : Bool) → b ≡ true → not b ≡ false
no_from b e = ap not e

yes_from : (b : Bool) → not b ≡ false → b ≡ true
yes_from true h = refl
yes_from false h = absurd (false≢true (sym h))

-- ---- a number that is not odd

rest_size : (z : ℤ) (b : ℕ) → unsigned_abs (int_rem z (pos b)) ≡ unsigned_abs z % b
rest_size (pos n) b = refl
rest_size (negsuc n) b = size (suc n % b)
  where
    size : (k : ℕ) → unsigned_abs (neg_ℤ (pos k)) ≡ k
    size zero = refl
    size (suc k) = refl

no_size : (z : ℤ) → unsigned_abs z ≡ 0 → z ≡ pos 0
no_size (pos n) e = ap pos e
no_size (negsuc n) e = absurd (omega (arith, e))

pub divides_from_even : (a b : ℕ) (z : ℤ) → is_odd (pos a) (pos b) z ≡ false → b ∣ unsigned_abs z * a
divides_from_even a b z e =
    let none : int_rem (z *ℤ pos a) (pos b) ≡ pos 0 =
    (Decides-int_eq (int_rem (z *ℤ pos a) (pos b)) (pos 0)).0 (yes_from _ e) in
    dvd_of_mod-eq-zero b (ap (λ (n : ℕ). n % b) (sym (unsigned_abs-mul z (pos a)))
    ∙ (sym (rest_size (z *ℤ pos a) b) ∙ ap unsigned_abs none))

pub even_from_divides : (a b : ℕ) (z : ℤ) → b ∣ unsigned_abs z * a → is_odd (pos a) (pos b) z ≡ false
even_from_divides a b z d =
    let none : unsigned_abs (int_rem (z *ℤ pos a) (pos b)) ≡ 0 = rest_size (z *ℤ pos a) b
    ∙ (ap (λ (n : ℕ). n % b) (unsigned_abs-mul z (pos a)) ∙ mod-eq-zero_of_dvd b d) in
    no_from _ ((Decides-int_eq (int_rem (z *ℤ pos a) (pos b)) (pos 0)).1 (no_size _ none))

-- ---- steps of the divisor

pub size_alone : (a b : ℕ) (z : ℤ) → is_odd (pos a) (pos b) (pos (unsigned_abs z)) ≡ is_odd (pos a) (pos b) z
size_alone a b z = both_ways _ _ (λ e. even_from_divides a b z (divides_from_even a b (pos (unsigned_abs z)) e))
    (λ e. even_from_divides a b (pos (unsigned_abs z)) (divides_from_even a b z e))

pub zero_even : (a b : ℕ) → is_odd (pos a) (pos b) (pos 0) ≡ false
zero_even a b =
    even_from_divides a b (pos 0) (subst (λ (n : ℕ). b ∣ n) (let e : 0 ≡ 0 * a = omega arith in e) (dvd-zero b))

product_of_sum : (x y a : ℕ) → (x + y) * a ≡ x * a + y * a
product_of_sum x y a = grind arith

-- m is so many times n and the rest
rest_divides : (a b m n : ℕ) → b ∣ n * a → (b ∣ m % n * a) ↔ (b ∣ m * a)
rest_divides a b m n d =
    let times : b ∣ n * a * (m / n) = dvd-mul_right_of_dvd b d (m / n) in
    let whole : n * a * (m / n) + m % n * a ≡ m * a =
    ap (λ (k : ℕ). k + m % n * a) (mul_right_comm n a (m / n))
    ∙ (sym (product_of_sum (n * (m / n)) (m % n) a) ∙ ap (λ (k : ℕ). k * a) (div-add-mod m n)) in
    subst (λ (k : ℕ). (b ∣ m % n * a) ↔ (b ∣ k)) whole (dvd-add_iff_right b times)

pub euclid : (a b m n : ℕ) → (is_odd (pos a) (pos b) (pos n) || is_odd (pos a) (pos b) (pos (m % n)))
    ≡ (is_odd (pos a) (pos b) (pos m) || is_odd (pos a) (pos b) (pos n))
euclid a b m n = both_ways _ _
    (λ e. let parts = or_parts _ _ e in let d = divides_from_even a b (pos n) parts.0 in
    or_from _ _
    (even_from_divides a b (pos m) ((rest_divides a b m n d).0 (divides_from_even a b (pos (m % n)) parts.1)))
    parts.0)
    (λ e. let parts = or_parts _ _ e in let d = divides_from_even a b (pos n) parts.1 in
    or_from _ _ parts.1
    (even_from_divides a b (pos (m % n)) ((rest_divides a b m n d).1 (divides_from_even a b (pos m) parts.0))))

-- one shift more
pub shift_counted : (t : Transformation) (x y : ℤ) (divisor m n with_x more : ℕ) → t ≡ Shift x y → m ≡ unsigned_abs x
    → n ≡ unsigned_abs y → IsOddWhere (λ above below. is_odd above below (pos divisor) || is_odd above below (pos m))
    with_x
    → IsOddWhere (λ above below. is_odd above below (pos with_x) || is_odd above below (pos n)) more
    → IsOddWhere (λ above below. is_odd above below (pos divisor) || is_odd_shift above below t) more
shift_counted t x y divisor m n with_x more is e f h k above below some =
    let odd : ℤ → Bool = is_odd (pos above) (pos below) in
    let x_alone : odd (pos m) ≡ odd x = ap (λ (i : ℕ). odd (pos i)) e ∙ size_alone above below x in
    let y_alone : odd (pos n) ≡ odd y = ap (λ (i : ℕ). odd (pos i)) f ∙ size_alone above below y in
    k above below some
    ∙ (ap (λ (b : Bool). b || odd (pos n)) (h above below some ∙ ap (λ (b : Bool). odd (pos divisor) || b) x_alone)
    ∙ (ap (λ (b : Bool). odd (pos divisor) || odd x || b) y_alone
    ∙ (or_assoc (odd (pos divisor)) (odd x) (odd y)
    ∙ ap (λ (u : Transformation). odd (pos divisor) || is_odd_shift (pos above) (pos below) u) (sym is))))

-- the divisor of two numbers, and of those of one shift
divisor_within : ℕ → ℕ → ℕ → ℕ
divisor_within zero m n = m
divisor_within (suc steps) m zero = m
divisor_within (suc steps) m (suc n) = divisor_within steps (suc n) (m % suc n)

none_more : (a b : ℕ) (x : Bool) → x ≡ (x || is_odd (pos a) (pos b) (pos 0))
none_more a b x = sym (ap (λ (y : Bool). x || y) (zero_even a b) ∙ or-false x)

within_odd : (steps m n : ℕ) → n ≤ steps
    → IsOddWhere (λ above below. is_odd above below (pos m) || is_odd above below (pos n)) (divisor_within steps m n)
unfolding divisor_within
within_odd zero m zero le above below some = none_more above below _
within_odd zero m (suc n) le above below some = absurd (omega (arith, le))
within_odd (suc steps) m zero le above below some = none_more above below _
within_odd (suc steps) m (suc n) le above below some =
    let less : m % suc n < suc n = mod-lt m (omega arith) in
    within_odd steps (suc n) (m % suc n) (omega (arith, le, less)) above below some ∙ euclid above below m (suc n)

pub divisor_of_shift : ℤ → ℤ → ℕ
divisor_of_shift x y = divisor_within (unsigned_abs y) (unsigned_abs x) (unsigned_abs y)

pub one_shift_odd : (x y : ℤ)
    → IsOddWhere (λ above below. list_any (is_odd_shift above below) (Shift x y ∷ [])) (divisor_of_shift x y)
unfolding divisor_of_shift
one_shift_odd x y above below some =
    let odd : ℤ → Bool = is_odd (pos above) (pos below) in
    within_odd (unsigned_abs y) (unsigned_abs x) (unsigned_abs y) (omega arith) above below some
    ∙ (ap (λ (b : Bool). b || odd (pos (unsigned_abs y))) (size_alone above below x)
    ∙ (ap (λ (b : Bool). odd x || b) (size_alone above below y) ∙ sym (or-false (odd x || odd y))))

-- ---- one number alone does

divides_other : (m n : ℕ) (test : ℤ → ℤ → Bool) → IsOddWhere test m → IsOddWhere test n → m ∣ n
divides_other zero n test h k =
    let same = k 1 (n + 1) (omega arith) ∙ sym (h 1 (n + 1) (omega arith)) in
    let d = divides_from_even 1 (n + 1) (pos n) (same ∙ zero_even 1 (n + 1)) in
    let none : n * 1 % (n + 1) ≡ 0 = mod-eq-zero_of_dvd (n + 1) d in
    let less : n * 1 < n + 1 = omega arith in
    subst (λ (r : ℕ). zero ∣ r) (let is : 0 ≡ n = omega (arith, none, mod-eq_of_lt less) in is) (dvd-zero zero)
divides_other (suc m) n test h k =
    let same = k 1 (suc m) (omega arith) ∙ sym (h 1 (suc m) (omega arith)) in
    let own = even_from_divides 1 (suc m) (pos (suc m)) (dvd-mul_right (suc m) 1) in
    subst (λ (r : ℕ). suc m ∣ r) (let once : n * 1 ≡ n = omega arith in once)
    (divides_from_even 1 (suc m) (pos n) (same ∙ own))

pub one_divisor : (m n : ℕ) (test : ℤ → ℤ → Bool) → IsOddWhere test m → IsOddWhere test n → m ≡ n
one_divisor m n test h k = dvd_antisymm (divides_other m n test h k) (divides_other n m test k h)
