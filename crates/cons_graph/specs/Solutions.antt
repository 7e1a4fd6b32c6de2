use Rattle.std.specs.Prelude.{◌≡◌, ℕ, ◌<◌, ℤ, pos, ◌-ℤ◌, ◌≤ℤ◌, List, All, slice_index_or}
use Rattle.cons_graph.specs.declared.edges.Edge.{Edge}

-- x makes the edge's inequality true: from its tail to its head the values rise by at least its length
abbrev pub Meets : (ℕ → ℤ) → Edge → Type 0
Meets x e = e.len ≤ℤ (x e.to -ℤ x e.from)

-- a solution of a list of inequalities: the origin, variable 0, is at 0, and every inequality is true
pub record IsSolution (edges : List Edge) (x : ℕ → ℤ) : Type 0 where
  pub origin : x 0 ≡ pos 0
  pub meets : All (Meets x) edges

-- the least solution: each of its values is at most that variable's value in every solution
pub record IsLeastSolution (vars : ℕ) (edges : List Edge) (x : ℕ → ℤ) : Type 0 where
  pub solves : IsSolution edges x
  pub below : (y : ℕ → ℤ) → IsSolution edges y → (v : ℕ) → v < vars → x v ≤ℤ y v

-- two least solutions agree on the variables
abbrev pub HasOneLeast : ℕ → List Edge → Type 0
HasOneLeast vars edges = (x y : ℕ → ℤ) → IsLeastSolution vars edges x → IsLeastSolution vars edges y → (v : ℕ)
    → v < vars → x v ≡ y v

-- the map from variables to values that a list of values stands for
abbrev pub value_of : List ℤ → ℕ → ℤ
value_of values v = slice_index_or values v (pos 0)
