use Rattle.std.proofs.Common.{◌≡◌, List, length, drop}
use Rattle.checked_cells.specs.{CheckedCell.CheckedCell, Lines.{cells_after, known_cells}, Built.AreBuilt}
use Rattle.checked_cells.specs.{Tables.{AreTables, HaveSteps}, Sides.HaveSides}
use Rattle.stick_cell.specs.Ready.{AreReady}
use Rattle.stick_cell.proofs.resolving.resolve_cells.Given as goal

abbrev pub invariant-loop-text : goal.invariant-loop-text
invariant-loop-text l =
    (cells : List CheckedCell) × AreTables cells l.tables.items × AreBuilt l.tech cells
    × (cells_after l.tech cells (drop l.text-index l.design.cells) ≡ known_cells l.tech l.design.cells)
    × (length l.tables.items ≡ l.text-index)
    × HaveSteps cells l.tables.items
    × HaveSides cells l.tables.items
    × AreReady l.tech l.design.cells l.ready
