use Rattle.std.proofs.Common.{◌≡◌, ◌+◌, ◌++◌, drop}
use Rattle.stick_print.specs.ReadBack.{lines_from}
use Rattle.design_edits.proofs.copying.copy_lines.Given as goal

abbrev pub invariant-loop-line : goal.invariant-loop-line
invariant-loop-line l = record {
  number : l.number ≡ l.fn.first + l.line-index;
  copied : l.copies.items ++ lines_from l.number (drop l.line-index l.lines) ≡ lines_from l.fn.first l.lines;
}
