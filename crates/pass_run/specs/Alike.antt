-- What the list of a pass and its system have in common, and how long a list may be.
use Rattle.std.specs.Prelude.{ℕ, ℤ, ◌↔◌, List}
use Rattle.cons_graph.specs.{declared.edges.Edge.Edge, Solutions.IsSolution, Walks.HasPositiveCycle}

-- the most inequalities in the list of a pass
abbrev pub most_edges : ℕ
most_edges = 4194304

-- two lists of inequalities have the same solutions
abbrev pub HaveSameSolutions : List Edge → List Edge → Type 0
HaveSameSolutions es fs = (x : ℕ → ℤ) → IsSolution es x ↔ IsSolution fs x

-- one list of inequalities has a positive cycle exactly where the other has
abbrev pub HaveCyclesAlike : List Edge → List Edge → Type 0
HaveCyclesAlike es fs = HasPositiveCycle es ↔ HasPositiveCycle fs
