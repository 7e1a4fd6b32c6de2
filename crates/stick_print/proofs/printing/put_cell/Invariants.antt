use Rattle.std.{proofs.Common.{◌≡◌, ◌++◌, take}, specs.List.flat_map}
use Rattle.stick_text.specs.declared.design.Statement.TheVariants.{Cell}
use Rattle.stick_print.specs.Canonical.{line_of, item_line}
use Rattle.stick_print.proofs.printing.put_cell.Given as goal

abbrev pub invariant-loop-line : goal.invariant-loop-line
invariant-loop-line l =
    l.out.items ≡ l.fn.out.items
    ++ (line_of (Cell l.cell.name) ++ flat_map item_line (take l.line-index l.cell.lines))
