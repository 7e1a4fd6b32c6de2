use Rattle.std.specs.Prelude.{◌≡◌, ◌≢◌, ℕ, ◌^◌, ◌<◌, ◌≤◌, pos, neg_ℤ, ◌≤ℤ◌, List, All, Any, length}
use Rattle.cons_graph.specs.declared.edges.Edge.{Edge}

-- what a graph is to its callers: how many variables it has, and the list of its edges
pub record Constraints : Type 0 where
  pub vars : ℕ
  pub edges : List Edge

-- an edge among so many variables: its ends are two of them, it does not lead into variable 0,
-- and its length lies within 2^21 of 0
pub record IsEdgeAmong (vars : ℕ) (e : Edge) : Type 0 where
  pub from_in_range : e.from < vars
  pub to_in_range : e.to < vars
  pub ends_differ : e.from ≢ e.to
  pub not_into_origin : e.to ≢ 0
  pub length_low : neg_ℤ (pos (2 ^ 21)) ≤ℤ e.len
  pub length_high : e.len ≤ℤ pos (2 ^ 21)

-- an edge whose length lies within 2^21 of 0
abbrev pub IsShort : Edge → Type 0
IsShort e = (neg_ℤ (pos (2 ^ 21)) ≤ℤ e.len) × (e.len ≤ℤ pos (2 ^ 21))

-- an edge from the origin to the variable v
abbrev pub LeadsFromOrigin : ℕ → Edge → Type 0
LeadsFromOrigin v e = (e.from ≡ 0) × (e.to ≡ v)

-- edges of which a constraint graph can be made: there are 1 to 2^17 variables, each edge is among them,
-- and one leads from the origin, variable 0, to every other variable
pub record IsConstraintGraph (g : Constraints) : Type 0 where
  pub has_origin : 1 ≤ g.vars
  pub few_vars : g.vars ≤ 2 ^ 17
  pub edges_among : All (IsEdgeAmong g.vars) g.edges
  pub all_from_origin : (v : ℕ) → 1 ≤ v → v < g.vars → Any (LeadsFromOrigin v) g.edges

-- a constraint graph of at most 4,194,304 edges
pub record IsSmallGraph (g : Constraints) : Type 0 where
  pub shape : IsConstraintGraph g
  pub few : length g.edges ≤ 4194304
