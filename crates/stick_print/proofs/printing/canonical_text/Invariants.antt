use Rattle.std.{proofs.Common.{◌≡◌, ◌++◌, take}, specs.List.flat_map}
use Rattle.stick_text.specs.declared.design.Statement.TheVariants.{Version}
use Rattle.stick_print.specs.Canonical.{line_of, cell_lines, grid_lines}
use Rattle.stick_print.proofs.printing.canonical_text.Given as goal

abbrev pub invariant-loop-cell : goal.invariant-loop-cell
invariant-loop-cell l = l.out.items ≡ line_of (Version l.design.version)
    ++ flat_map cell_lines (take l.cell-index l.design.cells)

abbrev pub invariant-loop-grid : goal.invariant-loop-grid
invariant-loop-grid l = l.out.items ≡ line_of (Version l.design.version)
    ++ (flat_map cell_lines l.design.cells ++ flat_map grid_lines (take l.grid-index l.design.grids))
