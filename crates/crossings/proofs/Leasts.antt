-- The least number of a list that has a fact, as far as the first ones.
use Rattle.std.proofs.Common.{◌≡◌, ℕ, ◌+◌, Option, Some, None, List, length, get_or, inl, inr, Contains, arith}
use Rattle.crossings.{specs.Pairs.{Least, IsBelow}, proofs.Counts.{FirstWith, with_more, with_on, with_no_more}}
use Rattle.crossings.proofs.Firsts.{first_new, contains_first, first_contained}

pub least_alike : (P Q : ℕ → Type 0) (w : Option ℕ) → ((k : ℕ) → P k → Q k) → ((k : ℕ) → Q k → P k) → Least P w
    → Least Q w
least_alike P Q None to from h = λ k q. h k (from k q)
least_alike P Q (Some a) to from h = (to a h.0, λ k q. h.1 k (from k q))

-- one more number without the fact
pub least_kept : (numbers : List ℕ) (n : ℕ) (P : ℕ → Type 0) (w : Option ℕ) → Least (FirstWith numbers n P) w
    → (P (get_or numbers n 0) → ⊥) → Least (FirstWith numbers (n + 1) P) w
least_kept numbers n P w h lacks =
    least_alike (FirstWith numbers n P) (FirstWith numbers (n + 1) P) w (with_on numbers n P)
    (with_no_more numbers n P lacks) h

-- one that is not less
pub least_stays : (numbers : List ℕ) (n : ℕ) (P : ℕ → Type 0) (w : Option ℕ) → Least (FirstWith numbers n P) w
    → (IsBelow (get_or numbers n 0) w → ⊥) → Least (FirstWith numbers (n + 1) P) w
least_stays numbers n P None h above = absurd (above tt)
least_stays numbers n P (Some a) h above = (
  with_on numbers n P a h.0,
  λ k m. elim (with_more numbers n P k m)
      [ inl before ↦ h.1 k before | inr new ↦ let e = new.0 in omega (arith, above) ],
)

-- one that is less
pub least_falls : (numbers : List ℕ) (n : ℕ) (P : ℕ → Type 0) (w : Option ℕ) → Least (FirstWith numbers n P) w
    → IsBelow (get_or numbers n 0) w → P (get_or numbers n 0)
    → Least (FirstWith numbers (n + 1) P) (Some (get_or numbers n 0))
least_falls numbers n P None h below here = (
  (first_new numbers n, here),
  λ k m. elim (with_more numbers n P k m) [ inl before ↦ absurd (h k before) | inr new ↦ let e = new.0 in omega arith ],
)
least_falls numbers n P (Some a) h below here = (
  (first_new numbers n, here),
  λ k m. elim (with_more numbers n P k m)
      [ inl before ↦ let le = h.1 k before in omega arith | inr new ↦ let e = new.0 in omega arith ],
)

-- all numbers
pub least_all : (numbers : List ℕ) (n : ℕ) (P : ℕ → Type 0) (w : Option ℕ) → n ≡ length numbers
    → Least (FirstWith numbers n P) w → Least (λ k. Contains numbers k × P k) w
least_all numbers n P w all h =
    least_alike (FirstWith numbers n P) (λ k. Contains numbers k × P k) w
    (λ k m. (contains_first numbers n k (omega arith) m.0, m.1))
    (λ k m. (first_contained numbers n k (omega arith) m.0, m.1)) h
