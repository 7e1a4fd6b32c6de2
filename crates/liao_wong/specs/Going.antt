use Rattle.std.specs.Prelude.{◌≡◌, ℕ, List, filter, not}
use Rattle.cons_graph.specs.{declared.edges.Edge.Edge, Constraints.IsConstraintGraph, EdgeNumbers.{edge_at, leaving}}
use Rattle.round_log.{specs.{Orders.NamesEachOnce, Looks.is_forward}, proofs.Ends.LogOf}
use Rattle.liao_wong.specs.Held.{Held, ArePlaces}

-- what each part of a round rests on: a constraint graph, an order of its variables with their places, and a log for
-- them that the rounds may come to without a stop
pub record IsReady (vars : ℕ) (edges : List Edge) (order places : List ℕ) (held : Held) : Type 0 where
  pub shape : IsConstraintGraph (record { vars = vars; edges = edges })
  pub names : NamesEachOnce vars order
  pub places_are : ArePlaces order vars places
  pub same_vars : held.vars ≡ vars
  pub log : LogOf (record { vars = vars; edges = edges }) order held.raises

-- those of the edges with these numbers that go up in the order, and those that do not
abbrev pub forward_of : List Edge → List ℕ → List ℕ → List ℕ
forward_of edges order numbers = filter (λ k. is_forward order (edge_at edges k)) numbers

abbrev pub backward_of : List Edge → List ℕ → List ℕ → List ℕ
backward_of edges order numbers = filter (λ k. not (is_forward order (edge_at edges k))) numbers

-- the forward edges that leave a variable
abbrev pub group_of : List Edge → List ℕ → ℕ → List ℕ
group_of edges order v = forward_of edges order (leaving edges v)
