use Rattle.std.specs.Prelude.{◌≡◌, ◌≢◌, ℕ, ◌<◌, Some, List, All, AllPairs, Contains, slice_get}

-- the list names each of the variables once
pub record NamesEachOnce (vars : ℕ) (order : List ℕ) : Type 0 where
  pub in_range : All (λ v. v < vars) order
  pub each : (v : ℕ) → v < vars → Contains order v
  pub once : AllPairs (λ u v. u ≢ v) order

-- an order of the variables: it names each once and begins with the origin
pub record IsOrder (vars : ℕ) (order : List ℕ) : Type 0 where
  pub names : NamesEachOnce vars order
  pub origin_first : slice_get order 0 ≡ Some 0
