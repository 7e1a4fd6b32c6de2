use Rattle.std.specs.Prelude.{◌≡◌, ℕ, ℤ, pos, ◌+ℤ◌, ◌<ℤ◌, List, [], ◌∷◌, All, Contains}
use Rattle.cons_graph.specs.declared.edges.Edge.{Edge}

-- a walk from one variable to another: each edge begins where the last one ended
abbrev pub IsWalk : ℕ → List Edge → ℕ → Type 0
IsWalk start [] end = start ≡ end
IsWalk start (e ∷ es) end = (e.from ≡ start) × IsWalk e.to es end

-- the length of a walk: the sum of its edges' lengths
abbrev pub walk_length : List Edge → ℤ
walk_length [] = pos 0
walk_length (e ∷ es) = e.len +ℤ walk_length es

-- a cycle: a walk that is not empty and returns to its first variable
abbrev pub IsCycle : List Edge → Type 0
IsCycle [] = ⊥
IsCycle (e ∷ es) = IsWalk e.to es e.from

-- a positive cycle among the edges of a list: its length is above 0
pub record IsPositiveCycle (edges walk : List Edge) : Type 0 where
  pub of_these : All (Contains edges) walk
  pub closed : IsCycle walk
  pub positive : pos 0 <ℤ walk_length walk

-- some cycle among the edges of the list is positive
abbrev pub HasPositiveCycle : List Edge → Type 0
HasPositiveCycle edges = (walk : List Edge) × IsPositiveCycle edges walk
