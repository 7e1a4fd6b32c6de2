-- The edges that leave one variable, as an index of the edges tells them.
use Rattle.std.specs.Prelude.{◌≡◌, ℕ, ◌<◌, List, length, map, All}
use Rattle.cons_graph.specs.{declared.edges.{Edge.Edge, Why.TheVariants.Size}, EdgeNumbers.edge_at}
use Rattle.edge_index.specs.{declared.index.Head.Head, Runs.head_at}

-- an edge of its tail and its head; no look asks why it is there
abbrev pub edge_of : ℕ → Head → Edge
edge_of tail head = record { from = tail; to = head.to; len = head.len; why = Size }

-- numbers of edges that leave one variable, and their heads
pub record LeaveFrom (edges : List Edge) (tail : ℕ) (numbers : List ℕ) (heads : List Head) : Type 0 where
  pub in_range : All (λ k. k < length edges) numbers
  pub tails : All (λ k. (edge_at edges k).from ≡ tail) numbers
  pub heads_are : heads ≡ map (head_at edges) numbers
