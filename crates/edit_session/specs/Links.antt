-- Which edges leave each variable, as links from an edge to the next older one of the same tail. Only private
-- functions cite these.
use Rattle.std.specs.Prelude.{◌≡◌, ◌≢◌, ℕ, suc, ◌<◌, ◌≤◌, List, length, slice_index}
use Rattle.cons_graph.specs.{declared.edges.Edge.Edge, EdgeNumbers.edge_at}

-- the last of the first n edges that leaves v has the number link - 1; where link is 0, none of them does
pub record IsLatest (edges : List Edge) (v n link : ℕ) : Type 0 where
  pub within : link ≤ n
  pub leaves : (k : ℕ) → link ≡ suc k → (edge_at edges k).from ≡ v
  pub last : (k : ℕ) → link ≤ k → k < n → (edge_at edges k).from ≢ v

-- the links of the first n edges
pub record AreLinksUpTo (vars : ℕ) (edges : List Edge) (n : ℕ) (latest before : List ℕ) : Type 0 where
  pub one_each : length latest ≡ vars
  pub one_each_edge : length before ≡ length edges
  pub newest : (v : ℕ) → v < vars → IsLatest edges v n (slice_index latest v)
  pub older : (k : ℕ) → k < n → IsLatest edges (edge_at edges k).from k (slice_index before k)

-- the links of all edges
abbrev pub AreLinks : ℕ → List Edge → List ℕ → List ℕ → Type 0
AreLinks vars edges latest before = AreLinksUpTo vars edges (length edges) latest before
