use Rattle.std.specs.Prelude.{◌≡◌, ℕ, ◌<◌, ◌⊎◌, ℤ, ◌<ℤ◌, List, AllPairs}
use Rattle.round_log.specs.Orders.{NamesEachOnce}

-- u comes before v in order of (value, number): its value is less, or they are equal and its number is less
abbrev pub Precedes : (ℕ → ℤ) → ℕ → ℕ → Type 0
Precedes x u v = (x u <ℤ x v) ⊎ ((x u ≡ x v) × (u < v))

-- each stands before all that come after it in order of (value, number)
abbrev pub IsInOrderOf : (ℕ → ℤ) → List ℕ → Type 0
IsInOrderOf x order = AllPairs (Precedes x) order

-- the variables have one order by (value, number)
abbrev pub HasOneOrder : ℕ → (ℕ → ℤ) → Type 0
HasOneOrder vars x = (a b : List ℕ) → NamesEachOnce vars a → IsInOrderOf x a → NamesEachOnce vars b → IsInOrderOf x b
    → a ≡ b
