-- What the code tells of a cell's lines, and of the whole cell.
use Rattle.std.specs.Prelude.{◌≡◌, ℕ, List, Result, Ok, Err}
use Rattle.stick_text.specs.declared.fault.{StickFault.StickFault, LineFault.LineFault, ParseFault.ParseFault}
use Rattle.stick_text.specs.{declared.fault.ParseFault.TheVariants.{Stick, OutOfMemory}, Reading.Fails}
use Rattle.stick_text.specs.declared.fault.LineFault.TheVariants as line_faults
use Rattle.stick_cell.specs.{declared.builder.CellBuilder.CellBuilder, CellBuilder.IsCellBuilder}
use Rattle.checked_cells.specs.{declared.table.Table.Table, CheckedCell.CheckedCell, Steps.AreStepsOf, Tables.IsTableOf}
use Rattle.checked_cells.specs.Sides.{side_entries, AreSidesOf}

-- the fault of a line, with the line's number
abbrev pub fault_at_line : ℕ → LineFault → ParseFault
fault_at_line line (line_faults.Kind kind) = Stick (record { line = line; kind = kind })
fault_at_line line line_faults.OutOfMemory = OutOfMemory

-- what is kept after the lines of a cell, or their fault; nothing is said where memory ran out
abbrev pub GrowsTo : List CheckedCell → Result CellBuilder ParseFault → Result CheckedCell StickFault → Type 0
GrowsTo cells (Ok builder) read = (known : CheckedCell) × (read ≡ Ok known) × IsCellBuilder cells known builder
    × AreSidesOf cells known (side_entries builder.table.sides)
GrowsTo cells (Err fault) read = Fails fault read

-- the table of a cell, or its fault
abbrev pub TellsTable : List CheckedCell → Result Table ParseFault → Result CheckedCell StickFault → Type 0
TellsTable cells (Ok table) read = (known : CheckedCell) × (read ≡ Ok known) × IsTableOf known table
    × AreStepsOf cells known table.steps.items × AreSidesOf cells known (side_entries table.sides)
TellsTable cells (Err fault) read = Fails fault read
