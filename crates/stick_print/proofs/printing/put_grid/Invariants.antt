use Rattle.std.{proofs.Common.{◌≡◌, ◌++◌, take}, specs.List.flat_map}
use Rattle.stick_text.specs.declared.design.Statement.TheVariants.{Grid}
use Rattle.stick_print.specs.Canonical.{line_of, row_line}
use Rattle.stick_print.proofs.printing.put_grid.Given as goal

abbrev pub invariant-loop-row : goal.invariant-loop-row
invariant-loop-row l =
    l.out.items ≡ l.fn.out.items ++ (line_of (Grid l.grid.name) ++ flat_map row_line (take l.row-index l.grid.rows))
