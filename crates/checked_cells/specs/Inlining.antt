-- Where the parts of a cell stand while its lines are inlined.
use Rattle.std.specs.Prelude.{◌≡◌, ℕ, ◌+◌, ◌<◌, ◌≤◌, ◌^◌, List, map, take, Option, None, Some}
use Rattle.cell_model.specs.declared.cell.{Node.Node, WireEnd.WireEnd, Wire.Wire, Limit.Limit}
use Rattle.cell_model.specs.declared.cell.WireEnd.TheVariants as ends
use Rattle.checked_cells.specs.declared.{cells.Cells.Cells, parts.Parts.Parts, steps.Step.Step}
use Rattle.checked_cells.specs.declared.inlining.Inlined.{Inlined}
use Rattle.checked_cells.specs.{CheckedCell.{CheckedCell, known_at, cell_of}, Counts.weight_of, Steps.{apply, IsStep}}
use Rattle.checked_cells.specs.Tables.{known_of}

-- the parts are those of the lines so far
pub record ArePartsOf (known : CheckedCell) (parts : Parts) : Type 0 where
  pub nodes : parts.nodes.items ≡ known.nodes
  pub wires : parts.wires.items ≡ known.wires
  pub ports : parts.ports.items ≡ map (λ plug. plug.port) known.plugs
  pub limits : parts.limits.items ≡ known.limits

-- the cells before a cell of the design
abbrev pub cells_before : Cells → ℕ → List CheckedCell
cells_before cells k = take k (known_of cells)

-- a step of cell number k, at which the parts are those of the lines before it, and after which the cell may still be
-- inlined
pub record IsAtStep (cells : Cells) (k : ℕ) (step : Step) (parts : Parts) : Type 0 where
  pub known : CheckedCell
  pub held : ArePartsOf known parts
  pub is : IsStep (cells_before cells k) step
  pub light : weight_of (apply (cells_before cells k) known step) ≤ 65536

-- a cell that is kept for the next use, if there is one, is the inlined cell that has its number
abbrev pub IsKept : Cells → Option Inlined → Type 0
IsKept cells None = Unit {0}
IsKept cells (Some kept) = kept.cell ≡ cell_of (known_at (known_of cells) kept.number)

-- columns and rows of a copy end at 32 bits, and so do the numbers of its nodes
abbrev pub HasPlace : ℕ → ℕ → Node → Type 0
HasPlace col row node = (col + node.col < 2 ^ 32) × (row + node.row < 2 ^ 32)

abbrev pub HasNumber : ℕ → WireEnd → Type 0
HasNumber first (ends.Node k) = first + k < 2 ^ 32
HasNumber first (ends.Port k) = Unit {0}

abbrev pub HasNumbers : ℕ → Wire → Type 0
HasNumbers first wire = HasNumber first wire.low × HasNumber first wire.high

abbrev pub LimitsNumbers : ℕ → Limit → Type 0
LimitsNumbers first limit = (first + limit.a < 2 ^ 32) × (first + limit.b < 2 ^ 32)
