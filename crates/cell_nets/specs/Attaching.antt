-- How the wires of a cell are put into lists of neighbours.
use Rattle.std.specs.Prelude.{◌≡◌, ℕ, ◌+◌, ◌≤◌, ◌≢◌, List, [], ◌∷◌, ◌++◌, length, slice_index}
use Rattle.smallvec.specs.SmallVec.{SmallVec}
use Rattle.cell_model.specs.{declared.cell.Node.Node, Nets.{first_part, with_each}}
use Rattle.graph_search.specs.Search.{neighbours_of, AreNeighbours}

-- a wire's part and each of some parts have been put into each other's lists
abbrev pub AreAttached : ℕ → List ℕ → List (SmallVec ℕ) → List (SmallVec ℕ) → Type 0
AreAttached wire parts old new =
    (links : List (ℕ × ℕ)) → AreNeighbours (length old) links old
    → AreNeighbours (length old) (links ++ with_each wire parts) new

-- part b has been put into the list of part a
pub record IsAdded (a b : ℕ) (old new : List (SmallVec ℕ)) : Type 0 where
  pub counted : length new ≡ length old
  pub grown : neighbours_of new a ≡ neighbours_of old a ++ b ∷ []
  pub kept : (k : ℕ) → k ≢ a → neighbours_of new k ≡ neighbours_of old k

-- the number of the first part of each of some nodes, and then that of their parts
pub record AreFirstParts (nodes : List Node) (firsts : List ℕ) : Type 0 where
  pub counted : length firsts ≡ length nodes + 1
  pub each : (k : ℕ) → k ≤ length nodes → slice_index firsts k ≡ first_part nodes k
