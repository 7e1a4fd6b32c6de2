-- A width or height against the most that it may be.
use Rattle.std.proofs.Common.{◌≡◌, ℕ, suc, ◌*◌, ◌<◌, ◌≤◌, true, false, ℤ, pos, negsuc, ◌⊎◌, inl, inr, sym, ap, ◌∙◌}
use Rattle.std.proofs.{Common.{arith, int_lt, int_div}, Math.IntN.{pos-*ℤ-pos, negsuc-*ℤ-pos}, lemmas.Int.ints}
use Rattle.std.{proofs.lemmas.{Nat.{div_below, le-div}, Bool.cases_lt}, specs.Prelude.{◌≤ℤ◌, ◌<ℤ◌, ◌*ℤ◌, ◌/◌, neg_ℤ}}

int_lt_cases : (a b : ℤ) → ((int_lt a b ≡ true) × (a <ℤ b)) ⊎ ((int_lt a b ≡ false) × (b ≤ℤ a))
int_lt_cases a b = grind (arith, ints)

-- two tests are equal that say the same
same_tests : (a b c d : ℤ) → (a <ℤ b → c <ℤ d) → (b ≤ℤ a → d ≤ℤ c) → int_lt a b ≡ int_lt c d
same_tests a b c d up down = elim (int_lt_cases a b) [
  | inl (t, lt) ↦ elim (int_lt_cases c d) [
    | inl (u, _) ↦ t ∙ sym u
    | inr (_, le) ↦ absurd (let more : c <ℤ d = up lt in omega (arith, ints, more, le))
  ]
  | inr (f, le) ↦ elim (int_lt_cases c d) [
    | inl (_, lt) ↦ absurd (let less : d ≤ℤ c = down le in omega (arith, ints, less, lt))
    | inr (g, _) ↦ f ∙ sym g
  ]
]

-- a number is past a quotient exactly where its product is past the dividend
pub past_quotient : (n k : ℕ) (l : ℤ) → 0 < k → int_lt (pos (n / k)) l ≡ int_lt (pos n) (l *ℤ pos k)
past_quotient n k (pos a) some =
    let product : pos a *ℤ pos k ≡ pos (a * k) = pos-*ℤ-pos a k in
    same_tests (pos (n / k)) (pos a) (pos n) (pos a *ℤ pos k)
    (λ lt. rw product (elim (cases_lt n (a * k)) [
      | inl h ↦ omega (arith, ints, h)
      | inr h ↦ absurd (let le : a ≤ n / k = le-div a n k some h in omega (arith, ints, le, lt))
    ]))
    (λ le. rw product (elim (cases_lt n (a * k)) [
      | inl h ↦ absurd (let lt : n / k < a = div_below n k a some h in omega (arith, ints, lt, le))
      | inr h ↦ omega (arith, ints, h)
    ]))
past_quotient n k (negsuc a) some =
    let product : negsuc a *ℤ pos k ≡ neg_ℤ (pos (suc a * k)) = negsuc-*ℤ-pos a k in
    same_tests (pos (n / k)) (negsuc a) (pos n) (negsuc a *ℤ pos k)
    (λ lt. absurd (omega (arith, ints, lt)))
    (λ le. rw product (omega (arith, ints)))

-- no quotient of numbers is below 0
pub quotient_from_zero : (n k : ℕ) (d q : ℤ) → 0 < k → d ≡ pos k → q ≡ int_div (pos n) d → pos 0 ≤ℤ q
quotient_from_zero n k d q some natural is = let e : q ≡ pos (n / k) = is
    ∙ ap (int_div (pos n)) natural in omega (arith, ints, e)
