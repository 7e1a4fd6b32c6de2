-- What the lines of a cell add to it, and the cell that they make.
use Rattle.std.specs.{Prelude.{◌≡◌, ℕ, ◌<◌, ◌≤◌, List, length, fold}, List.AllByRecursion}
use Rattle.checked_cells.specs.{declared.steps.Step.Step, CheckedCell.{CheckedCell, begun, known_at, with_node}}
use Rattle.checked_cells.specs.{CheckedCell.{with_port, with_copy, with_wire, with_limit}, Counts.weight_of}
use Rattle.checked_cells.specs.declared.steps.Step.TheVariants as steps

-- a cell with what a line adds to it
abbrev pub apply : List CheckedCell → CheckedCell → Step → CheckedCell
apply cells known (steps.Node name kind col row) = with_node known name.now kind col row
apply cells known (steps.Port name side layer place) = with_port known name.now side layer place
apply cells known (steps.Copy name k col row) = with_copy known name.now k (known_at cells k) col row
apply cells known (steps.Wire wire) = with_wire known wire
apply cells known (steps.Limit limit) = with_limit known limit

-- the cell that some lines make, one after the other
abbrev pub made_by : List CheckedCell → List ℕ → List Step → CheckedCell
made_by cells name added = fold (apply cells) (begun name) added

-- a copy is one of an earlier cell, whose nodes come to lie near
abbrev pub IsStep : List CheckedCell → Step → Type 0
IsStep cells (steps.Copy name k col row) = (k < length cells) × (col ≤ 4095) × (row ≤ 4095)
IsStep cells step = Unit {0}

-- The steps make the cell, where it may be inlined; in a heavier one the numbers in them are capped.
pub record AreStepsOf (cells : List CheckedCell) (known : CheckedCell) (added : List Step) : Type 0 where
  pub each : AllByRecursion (IsStep cells) added
  pub make : weight_of known ≤ 65536 → made_by cells known.name added ≡ known
