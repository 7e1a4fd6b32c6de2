-- Values while they rise after an edge has been appended. Only private functions cite these.
use Rattle.std.specs.Prelude.{◌≡◌, ◌≢◌, ℕ, suc, ◌+◌, ◌^◌, ◌<◌, ◌≤◌, Bool, false, true, ◌⊎◌, ℤ, pos, negsuc, ◌+ℤ◌, ◌-ℤ◌}
use Rattle.std.specs.Prelude.{◌≤ℤ◌, List, [], ◌∷◌, length, All, Contains, slice_index_or}
use Rattle.cons_graph.specs.{declared.edges.Edge.Edge, Constraints.IsConstraintGraph, EdgeNumbers.edge_at}
use Rattle.cons_graph.specs.{Solutions.{Meets, IsSolution, value_of}, Walks.{IsWalk, walk_length}}
use Rattle.liao_wong.specs.Answers.{IsWithinLimit}

-- a walk along edges of the list, from one variable to another, of this length
pub record IsReached (edges : List Edge) (from to : ℕ) (long : ℤ) : Type 0 where
  pub walk : List Edge
  pub of_these : All (Contains edges) walk
  pub leads : IsWalk from walk to
  pub as_long : walk_length walk ≡ long

-- Values that have risen from others, `base`, which met all edges but some that leave `tail`. Each edge is met, or its
-- tail waits, or it is one of the first n that leave v.
pub record IsRaised (vars tail : ℕ) (edges : List Edge) (x : List ℤ) (marks : List Bool) (v n : ℕ) : Type 0 where
  pub base : ℕ → ℤ
  pub most : ℕ
  pub most_small : most ≤ 2 ^ 57
  pub shape : IsConstraintGraph (record { vars = vars; edges = edges })
  pub one_each : length x ≡ vars
  pub one_mark_each : length marks ≡ vars
  pub tail_in_range : tail < vars
  pub base_small : (u : ℕ) → u < vars → IsWithinLimit (base u)
  pub base_meets : (k : ℕ) → k < length edges → (edge_at edges k).from ≢ tail → Meets base (edge_at edges k)
  pub tail_stays : value_of x tail ≡ base tail
  pub tail_met : (k : ℕ) → k < length edges → (edge_at edges k).from ≡ tail → Meets (value_of x) (edge_at edges k)
  pub origin : value_of x 0 ≡ pos 0
  pub at_least : (u : ℕ) → u < vars → base u ≤ℤ value_of x u
  pub at_most : (u : ℕ) → u < vars → value_of x u ≤ℤ (base u +ℤ pos most)
  pub below : (y : ℕ → ℤ) → IsSolution edges y → (u : ℕ) → u < vars → value_of x u ≤ℤ y u
  pub reached : (u : ℕ) → u < vars → (value_of x u ≡ base u) ⊎ IsReached edges tail u (value_of x u -ℤ base tail)
  pub met : (k : ℕ) → k < length edges → Meets (value_of x) (edge_at edges k)
      ⊎ ((slice_index_or marks (edge_at edges k).from false ≡ true) ⊎ (((edge_at edges k).from ≡ v) × (k < n)))

-- Values that all edges but the last meet, and that no solution of all is below.
pub record IsAppended (edges : List Edge) (x : List ℤ) (marks : List Bool) : Type 0 where
  pub some : 1 ≤ length edges
  pub shape : IsConstraintGraph (record { vars = length x; edges = edges })
  pub one_mark_each : length marks ≡ length x
  pub small : (u : ℕ) → u < length x → IsWithinLimit (value_of x u)
  pub origin : value_of x 0 ≡ pos 0
  pub met : (k : ℕ) → suc k < length edges → Meets (value_of x) (edge_at edges k)
  pub below : (y : ℕ → ℤ) → IsSolution edges y → (u : ℕ) → u < length x → value_of x u ≤ℤ y u

-- a number, or 0 for one below it
abbrev pub nat_of : ℤ → ℕ
nat_of (pos n) = n
nat_of (negsuc n) = 0

-- by how much a value may still rise, below 2^60
abbrev pub room_of : ℤ → ℕ
room_of a = nat_of (pos (2 ^ 60) -ℤ a)

-- and all values together
abbrev pub room_left : List ℤ → ℕ
room_left [] = 0
room_left (a ∷ xs) = room_of a + room_left xs
