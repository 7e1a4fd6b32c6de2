-- Edges that others imply.
use Rattle.std.specs.Prelude.{◌≤ℤ◌, ◌↔◌, List, All, Contains}
use Rattle.cons_graph.specs.{declared.edges.Edge.Edge, Walks.{IsWalk, walk_length, HasPositiveCycle}}

-- a walk along edges of the list leads from the edge's tail to its head, and is at least as long as the edge
pub record IsImpliedBy (edges : List Edge) (e : Edge) : Type 0 where
  pub walk : List Edge
  pub of_these : All (Contains edges) walk
  pub leads : IsWalk e.from walk e.to
  pub long : e.len ≤ℤ walk_length walk

-- where some of the edges imply all, these have a positive cycle exactly where all have one
abbrev pub HaveCyclesAlike : List Edge → List Edge → Type 0
HaveCyclesAlike some all = All (Contains all) some → All (IsImpliedBy some) all
    → HasPositiveCycle some ↔ HasPositiveCycle all
