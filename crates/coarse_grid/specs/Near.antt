-- Cells whose parts lie near, and start values that lie near.
use Rattle.std.specs.{Prelude.{ℕ, ◌<◌, ◌≤◌, ◌^◌, ℤ, pos, ◌≤ℤ◌, length}, List.AllByRecursion}
use Rattle.cell_model.specs.{declared.cell.{Node.Node, Wire.Wire, Cell.Cell}, Sound.{port_at, IsEnd}}

-- a pitch that lets every start value fit
abbrev pub IsPitch : ℤ → Type 0
IsPitch pitch = (pos 1 ≤ℤ pitch) × (pitch ≤ℤ pos 16384)

-- a start value lies within 2^27 of the origin, on its high side
abbrev pub IsNear : ℤ → Type 0
IsNear z = (pos 0 ≤ℤ z) × (z ≤ℤ pos (2 ^ 27))

-- a node's column and row
abbrev pub HasLines : Node → Type 0
HasLines node = (node.col ≤ 4095) × (node.row ≤ 4095)

abbrev pub StartsIn : Cell → Wire → Type 0
StartsIn cell wire = IsEnd cell wire.low

-- the columns, rows and places of a cell are few, and its wires start at its nodes and ports
pub record AreLinesNear (cell : Cell) : Type 0 where
  pub nodes : AllByRecursion HasLines cell.nodes
  pub ports : (k : ℕ) → k < length cell.ports → (port_at cell.ports k).place ≤ 4095
  pub wires : AllByRecursion (StartsIn cell) cell.wires
