-- Lists of what is found: numbers with a property, and the entries that hold a query.
use Rattle.std.specs.Prelude.{ℕ, ◌<◌, ◌≤◌, ◌⊎◌, Contains, List, length}
use Rattle.box_tree.specs.{declared.{query.Query.Query, entries.Entry.Entry}, Queries.HoldsAt, Orders.AreDistinct}
use Rattle.box_tree.specs.Tree.{entry_of}

-- to a list have been added exactly the numbers with a property
pub record AreGathered (Is : ℕ → Type 0) (old new : List ℕ) : Type 0 where
  pub sound : (b : ℕ) → Contains new b → Contains old b ⊎ Is b
  pub kept : (b : ℕ) → Contains old b → Contains new b
  pub complete : (b : ℕ) → Is b → Contains new b

-- the numbers of the entries that hold a query: all of them, each once, in any order
pub record AreHolding (entries : List Entry) (query : Query) (found : List ℕ) : Type 0 where
  pub sound : (k : ℕ) → Contains found k → HoldsAt entries query k
  pub complete : (k : ℕ) → HoldsAt entries query k → Contains found k
  pub once : AreDistinct found

-- numbers of some entries that hold a query, each once, in any order
pub record AreSomeHolding (entries : List Entry) (query : Query) (found : List ℕ) : Type 0 where
  pub sound : (k : ℕ) → Contains found k → HoldsAt entries query k
  pub once : AreDistinct found

-- entry number k stands before a place, and has a property
abbrev pub IsBefore : List Entry → (Entry → Type 0) → ℕ → ℕ → Type 0
IsBefore entries P end k = (k < end) × P (entry_of entries k)

-- the numbers of the entries before a place that have a property
pub record IsTaken (entries : List Entry) (P : Entry → Type 0) (end : ℕ) (found : List ℕ) : Type 0 where
  pub within : end ≤ length entries
  pub sound : (k : ℕ) → Contains found k → IsBefore entries P end k
  pub complete : (k : ℕ) → IsBefore entries P end k → Contains found k
  pub once : AreDistinct found
