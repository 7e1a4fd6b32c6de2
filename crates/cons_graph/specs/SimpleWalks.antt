use Rattle.std.specs.Prelude.{◌≢◌, ℕ, ◌<◌, ◌≤◌, ℤ, pos, ◌<ℤ◌, List, map, length, All, AllPairs, slice_index}
use Rattle.cons_graph.specs.{declared.edges.Edge.Edge, Walks.{IsWalk, walk_length, IsCycle}, EdgeNumbers.edge_at}

-- the edges with these numbers
abbrev pub edges_of : List Edge → List ℕ → List Edge
edges_of edges walk = map (edge_at edges) walk

-- the sum of the lengths of the edges with these numbers
abbrev pub length_of : List Edge → List ℕ → ℤ
length_of edges walk = walk_length (edges_of edges walk)

-- the variables that these edges begin at, and the ones that they lead to
abbrev pub tails_of : List Edge → List ℕ → List ℕ
tails_of edges walk = map (λ k. (edge_at edges k).from) walk

abbrev pub heads_of : List Edge → List ℕ → List ℕ
heads_of edges walk = map (λ k. (edge_at edges k).to) walk

-- no value stands at two places
abbrev pub HasNoRepeat : List ℕ → Type 0
HasNoRepeat vs = AllPairs (λ u v. u ≢ v) vs

-- numbers of edges that follow each other from one variable to another
pub record WalksFromTo (edges : List Edge) (start : ℕ) (walk : List ℕ) (end : ℕ) : Type 0 where
  pub in_range : All (λ k. k < length edges) walk
  pub follows : IsWalk start (edges_of edges walk) end

-- numbers of edges that make a cycle: they follow each other and return to their first variable, meet no variable
-- twice, begin at their variable of least number, and have a positive sum
pub record IsSimplePositiveCycle (edges : List Edge) (cycle : List ℕ) : Type 0 where
  pub in_range : All (λ k. k < length edges) cycle
  pub closed : IsCycle (edges_of edges cycle)
  pub no_repeat : HasNoRepeat (tails_of edges cycle)
  pub least_first : All (λ v. slice_index (tails_of edges cycle) 0 ≤ v) (tails_of edges cycle)
  pub positive : pos 0 <ℤ length_of edges cycle
