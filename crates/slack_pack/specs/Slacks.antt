-- Slacks while they are lowered: how far each variable could move, as far as is known. Only private functions cite
-- these.
use Rattle.std.specs.Prelude.{◌≡◌, ℕ, ◌+◌, ◌*◌, ◌^◌, ◌<◌, ◌≤◌, Bool, true, false, nat_lt, ◌⊎◌, ℤ, pos, neg_ℤ, ◌+ℤ◌}
use Rattle.std.specs.Prelude.{◌-ℤ◌, ◌≤ℤ◌, List, length, sum, count_by, All, Contains, slice_index}
use Rattle.cons_graph.specs.{declared.edges.Edge.Edge, Constraints.{Constraints, IsConstraintGraph}}
use Rattle.cons_graph.specs.{EdgeNumbers.edge_at, Solutions.{IsSolution, value_of}}
use Rattle.slack_pack.specs.Most.{IsAttained}

-- above each slack: what a variable has while no walk to a far one is known
abbrev pub none_yet : ℕ
none_yet = 2 ^ 63

-- a solution of a constraint graph within 2^60 of 0, a value for each variable
pub record IsPlaced (g : Constraints) (x : List ℤ) : Type 0 where
  pub shape : IsConstraintGraph g
  pub one_each : length x ≡ g.vars
  pub solves : IsSolution g.edges (value_of x)
  pub low : All (λ a. neg_ℤ (pos (2 ^ 60)) ≤ℤ a) x
  pub high : All (λ a. a ≤ℤ pos (2 ^ 60)) x

-- by how much an edge could be longer and still hold
abbrev pub room_of : (ℕ → ℤ) → Edge → ℤ
room_of x e = (x e.to -ℤ x e.from) -ℤ e.len

-- an edge whose head has a slack lets its tail move this far
abbrev pub Allows : List ℕ → (ℕ → ℤ) → Edge → ℕ → Type 0
Allows slacks x e a = slice_index slacks e.to < none_yet → pos a ≤ℤ (pos (slice_index slacks e.to) +ℤ room_of x e)

-- and no further
abbrev pub Grants : List ℕ → (ℕ → ℤ) → Edge → ℕ → Type 0
Grants slacks x e a = (slice_index slacks e.to < none_yet) × (pos a ≡ pos (slice_index slacks e.to) +ℤ room_of x e)

-- the least of a number and of what the first n of some edges allow
pub record IsLeastAllowed (edges : List Edge) (x : ℕ → ℤ) (slacks numbers : List ℕ) (n start least : ℕ) : Type 0 where
  pub at_most : least ≤ start
  pub allowed : (j : ℕ) → j < n → Allows slacks x (edge_at edges (slice_index numbers j)) least
  pub granted : (least ≡ start) ⊎ ((j : ℕ) × (j < n) × Grants slacks x (edge_at edges (slice_index numbers j)) least)

-- how many variables have a slack
abbrev pub reached : List ℕ → ℕ
reached slacks = count_by (λ s. nat_lt s none_yet) slacks

-- slacks that walks to far variables leave: none at the origin and at far variables, elsewhere the slack along one
-- such walk
pub record AreSlacks (g : Constraints) (far : List ℕ) (x : ℕ → ℤ) (slacks : List ℕ) : Type 0 where
  pub origin : slice_index slacks 0 ≡ 0
  pub held : (f : ℕ) → Contains far f → slice_index slacks f ≡ 0
  pub attained : (v : ℕ) → 1 ≤ v → v < g.vars → slice_index slacks v < none_yet
      → IsAttained g.edges far x v (x v +ℤ pos (slice_index slacks v))
  pub small : (v : ℕ) → v < g.vars → slice_index slacks v < none_yet
      → (x v +ℤ pos (slice_index slacks v)) ≤ℤ pos (2 ^ 60 + 2 ^ 21 * reached slacks)

-- slacks have been lowered, some of them or none
pub record IsLowered (g : Constraints) (x : ℕ → ℤ) (old new : List ℕ) (some : Bool) : Type 0 where
  pub counted : length new ≡ g.vars
  pub capped : All (λ s. s ≤ none_yet) new
  pub kept : (far : List ℕ) → AreSlacks g far x old → AreSlacks g far x new
  pub less : some ≡ true → sum new < sum old
  pub same : some ≡ false → new ≡ old

-- each edge that leaves a variable lets it move as far as its slack
abbrev pub IsQuietAt : List Edge → (ℕ → ℤ) → List ℕ → ℕ → Type 0
IsQuietAt edges x slacks v = (i : ℕ) → i < length edges → (edge_at edges i).from ≡ v
    → Allows slacks x (edge_at edges i) (slice_index slacks v)

-- the slacks at the start: none at the origin and at far variables, elsewhere none is known yet
pub record AreFirst (vars : ℕ) (far slacks : List ℕ) : Type 0 where
  pub counted : length slacks ≡ vars
  pub origin : slice_index slacks 0 ≡ 0
  pub held : (f : ℕ) → Contains far f → slice_index slacks f ≡ 0
  pub others : (v : ℕ) → v < vars → (slice_index slacks v ≡ none_yet)
      ⊎ ((slice_index slacks v ≡ 0) × ((v ≡ 0) ⊎ Contains far v))
