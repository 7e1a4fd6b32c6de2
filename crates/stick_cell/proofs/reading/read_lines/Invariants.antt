use Rattle.std.proofs.Common.{◌≡◌, List, drop}
use Rattle.checked_cells.specs.{CheckedCell.{CheckedCell, begun}, Lines.after_lines, Built.{IsBuilt, AreBuilt}}
use Rattle.checked_cells.specs.{Tables.AreTables, Sides.{side_entries, AreSidesOf, HaveSides}}
use Rattle.stick_cell.specs.CellBuilder.{IsCellBuilder}
use Rattle.stick_cell.proofs.reading.read_lines.Given as goal

abbrev pub invariant-loop-line : goal.invariant-loop-line
invariant-loop-line l =
    (cells : List CheckedCell) → AreBuilt l.tech cells → AreTables cells l.tables → HaveSides cells l.tables
    → IsCellBuilder cells (begun l.text.name) l.fn.builder
    → AreSidesOf cells (begun l.text.name) (side_entries l.fn.builder.table.sides)
    → (known : CheckedCell) × IsCellBuilder cells known l.builder
    × AreSidesOf cells known (side_entries l.builder.table.sides) × IsBuilt l.tech cells known
    × (after_lines l.tech cells known (drop l.line-index l.text.lines)
    ≡ after_lines l.tech cells (begun l.text.name) l.text.lines)
