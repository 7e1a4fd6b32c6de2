-- Numbers of a list that have a fact, as far as the first ones.
use Rattle.std.proofs.Common.{◌≡◌, ℕ, ◌+◌, ◌⊎◌, inl, inr, List, get_or, subst, sym}
use Rattle.crossings.proofs.Firsts.{IsAmongFirst, first_more, first_on}

-- numbers among the first n that have a fact
abbrev pub FirstWith : List ℕ → ℕ → (ℕ → Type 0) → ℕ → Type 0
FirstWith numbers n P k = IsAmongFirst numbers n k × P k

pub with_more : (numbers : List ℕ) (n : ℕ) (P : ℕ → Type 0) (k : ℕ) → FirstWith numbers (n + 1) P k
    → FirstWith numbers n P k ⊎ ((k ≡ get_or numbers n 0) × P (get_or numbers n 0))
with_more numbers n P k h = elim (first_more numbers n k h.0) [
  | inl before ↦ inl (before, h.1)
  | inr e ↦ inr (sym e, subst P (sym e) h.1)
]

pub with_on : (numbers : List ℕ) (n : ℕ) (P : ℕ → Type 0) (k : ℕ) → FirstWith numbers n P k
    → FirstWith numbers (n + 1) P k
with_on numbers n P k h = (first_on numbers n k h.0, h.1)

-- one more number without the fact
pub with_no_more : (numbers : List ℕ) (n : ℕ) (P : ℕ → Type 0) → (P (get_or numbers n 0) → ⊥) → (k : ℕ)
    → FirstWith numbers (n + 1) P k → FirstWith numbers n P k
with_no_more numbers n P lacks k h =
    elim (with_more numbers n P k h) [ inl before ↦ before | inr new ↦ absurd (lacks new.1) ]
