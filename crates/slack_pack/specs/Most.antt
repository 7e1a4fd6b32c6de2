-- How far each variable could move while some far variables stay where they are.
use Rattle.std.specs.Prelude.{◌≡◌, ◌↔◌, ℕ, ◌<◌, ◌≤◌, ℤ, ◌+ℤ◌, ◌-ℤ◌, ◌≤ℤ◌, List, All, Any, Contains}
use Rattle.cons_graph.specs.{declared.edges.Edge.Edge, Solutions.IsSolution, Walks.{IsWalk, walk_length}}

-- a solution in which each far variable has its value in x
pub record IsHeld (edges : List Edge) (far : List ℕ) (x y : ℕ → ℤ) : Type 0 where
  pub solves : IsSolution edges y
  pub held : (f : ℕ) → Contains far f → y f ≡ x f

-- the greatest of these: each of its values is at least that variable's value in every one
pub record IsMost (vars : ℕ) (edges : List Edge) (far : List ℕ) (x y : ℕ → ℤ) : Type 0 where
  pub is_held : IsHeld edges far x y
  pub above : (z : ℕ → ℤ) → IsHeld edges far x z → (v : ℕ) → v < vars → z v ≤ℤ y v

-- a walk along edges of the list, from one variable to another, of this length
pub record HasWalk (edges : List Edge) (from to : ℕ) (long : ℤ) : Type 0 where
  pub walk : List Edge
  pub of_these : All (Contains edges) walk
  pub leads : IsWalk from walk to
  pub as_long : walk_length walk ≡ long

-- the value of the variable is that of a far variable less the length of a walk to it
pub record IsAttained (edges : List Edge) (far : List ℕ) (x : ℕ → ℤ) (v : ℕ) (value : ℤ) : Type 0 where
  pub end : ℕ
  pub is_far : Contains far end
  pub long : ℤ
  pub walk : HasWalk edges v end long
  pub is : value ≡ x end -ℤ long

-- the variable lies on a critical walk: one from the origin through it to a far variable, as long as the value there
pub record IsOnCriticalWalk (edges : List Edge) (far : List ℕ) (x : ℕ → ℤ) (v : ℕ) : Type 0 where
  pub end : ℕ
  pub is_far : Contains far end
  pub before : ℤ
  pub after : ℤ
  pub first : HasWalk edges 0 v before
  pub second : HasWalk edges v end after
  pub as_long : before +ℤ after ≡ x end

-- a solution whose values are lengths of walks from the origin, and the most that the variables can move from it
pub record AreLeastAndMost (vars : ℕ) (edges : List Edge) (far : List ℕ) (x y : ℕ → ℤ) : Type 0 where
  pub solves : IsSolution edges x
  pub reached : (v : ℕ) → v < vars → HasWalk edges 0 v (x v)
  pub some_far : Any (λ f. f < vars) far
  pub most : IsMost vars edges far x y
  pub attained : (v : ℕ) → 1 ≤ v → v < vars → IsAttained edges far x v (y v)

-- a variable cannot move exactly where it lies on a critical walk
abbrev pub StandOnCriticalWalks : ℕ → List Edge → List ℕ → Type 0
StandOnCriticalWalks vars edges far = (x y : ℕ → ℤ) → AreLeastAndMost vars edges far x y → (v : ℕ) → v < vars
    → (y v ≡ x v) ↔ IsOnCriticalWalk edges far x v
