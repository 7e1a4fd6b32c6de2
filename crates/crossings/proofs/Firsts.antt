-- Numbers among the first ones of a list.
use Rattle.std.proofs.Common.{◌≡◌, ℕ, ◌+◌, ◌<◌, ◌≤◌, ◌⊎◌, inl, inr, List, length, get_or, subst, sym, ◌∙◌, Contains}
use Rattle.std.proofs.{Common.{refl, arith}, lemmas.{Bool.cases_lt, List.get_or_default}}

-- k is among the first n numbers of a list
pub record IsAmongFirst (numbers : List ℕ) (n k : ℕ) : Type 0 where
  pub place : ℕ
  pub before : place < n
  pub is : get_or numbers place 0 ≡ k

pub none_first : (numbers : List ℕ) (k : ℕ) → IsAmongFirst numbers 0 k → ⊥
none_first numbers k h = let lt = h.before in omega arith

-- among one more: among those before, or it is the new one
pub first_more : (numbers : List ℕ) (n k : ℕ) → IsAmongFirst numbers (n + 1) k
    → IsAmongFirst numbers n k ⊎ (get_or numbers n 0 ≡ k)
first_more numbers n k h =
    let lt = h.before in
    elim (cases_lt h.place n) [
      | inl less ↦ inl (record { place = h.place; before = less; is = h.is })
      | inr more ↦ let e : n ≡ h.place = omega arith in inr (subst (λ (i : ℕ). get_or numbers i 0 ≡ k) (sym e) h.is)
    ]

pub first_on : (numbers : List ℕ) (n k : ℕ) → IsAmongFirst numbers n k → IsAmongFirst numbers (n + 1) k
first_on numbers n k h = let lt = h.before in record { place = h.place; before = omega arith; is = h.is }

pub first_new : (numbers : List ℕ) (n : ℕ) → IsAmongFirst numbers (n + 1) (get_or numbers n 0)
first_new numbers n = record { place = n; before = omega arith; is = refl }

-- among all
pub contains_first : (numbers : List ℕ) (n k : ℕ) → n ≤ length numbers → IsAmongFirst numbers n k → Contains numbers k
contains_first numbers n k all h =
    let lt = h.before in
    let within : h.place < length numbers = omega arith in
    (h.place, within, get_or_default numbers h.place k 0 within ∙ h.is)

pub first_contained : (numbers : List ℕ) (n k : ℕ) → length numbers ≤ n → Contains numbers k → IsAmongFirst numbers n k
first_contained numbers n k all h =
    let lt = h.1 in
    record { place = h.0; before = omega arith; is = get_or_default numbers h.0 0 k lt ∙ h.2 }
