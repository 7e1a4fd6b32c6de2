-- A session whose first inequalities stay while others come and go after them.
use Rattle.std.specs.Prelude.{◌≡◌, ℕ, ◌≤◌, List, length, take, ◌++◌}
use Rattle.cons_graph.specs.{declared.edges.Edge.Edge, Constraints.Constraints}

-- there are as many variables, and the first inequalities, so many, are there and are the same
pub record Stays (listed : ℕ) (before after : Constraints) : Type 0 where
  pub vars : after.vars ≡ before.vars
  pub within : listed ≤ length after.edges
  pub begins : take listed after.edges ≡ take listed before.edges

-- the first inequalities, and then those of limits
abbrev pub listed_with : ℕ → List Edge → List Edge → List Edge
listed_with listed edges limits = take listed edges ++ limits
