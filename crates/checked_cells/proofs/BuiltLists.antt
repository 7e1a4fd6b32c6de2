-- The greatest column and row of some nodes.
use Rattle.std.{proofs.Common.{ℕ, ◌≤◌, max, List, [], ◌∷◌, arith}, specs.{Prelude.fold, List.AllByRecursion}}
use Rattle.cell_model.specs.declared.cell.Node.{Node}
use Rattle.checked_cells.specs.CheckedCell.{greatest_col, greatest_row}

-- the greatest so far is no less than before
from_greatest : {X : Type 0} (f : X → ℕ) (xs : List X) (most : ℕ) → most ≤ fold (λ most x. max most (f x)) most xs
from_greatest f [] most = omega arith
from_greatest f (x ∷ xs) most = omega (arith, from_greatest f xs (max most (f x)))

-- each is at most what the greatest is
all_below : {X : Type 0} (f : X → ℕ) (xs : List X) (most bound : ℕ) → fold (λ most x. max most (f x)) most xs ≤ bound
    → AllByRecursion (λ x. f x ≤ bound) xs
all_below f [] most bound h = tt
all_below f (x ∷ xs) most bound h =
    (omega (arith, from_greatest f xs (max most (f x))), all_below f xs (max most (f x)) bound h)

-- no node lies past the greatest column
pub within_greatest_col : (nodes : List Node) → AllByRecursion (λ node. node.col ≤ greatest_col nodes) nodes
within_greatest_col nodes = all_below (λ (node : Node). node.col) nodes 0 (greatest_col nodes) (omega arith)

-- nor past the greatest row
pub within_greatest_row : (nodes : List Node) → AllByRecursion (λ node. node.row ≤ greatest_row nodes) nodes
within_greatest_row nodes = all_below (λ (node : Node). node.row) nodes 0 (greatest_row nodes) (omega arith)
