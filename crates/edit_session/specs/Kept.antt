-- What a session keeps true of its fields.
use Rattle.std.specs.Prelude.{◌≡◌, ℕ, Bool, false, true, ℤ, List, length}
use Rattle.cons_graph.specs.{Constraints.{Constraints, IsSmallGraph}, Solutions.{IsLeastSolution, value_of}}
use Rattle.cons_graph.specs.Walks.{HasPositiveCycle}
use Rattle.edit_session.specs.Links.{AreLinks}

-- a small graph with the links of its edges, and its least solution or the word that a cycle is positive
pub record IsKept (g : Constraints) (latest before : List ℕ) (x : List ℤ) (cyclic : Bool) (marks : List Bool) : Type
    0 where
  pub shape : IsSmallGraph g
  pub links : AreLinks g.vars g.edges latest before
  pub one_each : length x ≡ g.vars
  pub one_mark_each : length marks ≡ g.vars
  pub least : cyclic ≡ false → IsLeastSolution g.vars g.edges (value_of x)
  pub cycle : cyclic ≡ true → HasPositiveCycle g.edges
