use Rattle.std.proofs.Common.{◌≡◌, [], length}
use Rattle.stick_text.specs.Order.{AfterCells}
use Rattle.stick_parse.specs.{LinesLeft.last_of, Parts.{rest_at, with_cells}}
use Rattle.stick_parse.proofs.parsing.cells.Given as goal

abbrev pub invariant-lines : goal.invariant-lines
invariant-lines l = record {
  so_far : with_cells l.cells.items (rest_at (AfterCells l.named (length l.cells.items)) l.lines)
      ≡ with_cells [] (rest_at (AfterCells l.named 0) l.initial.lines);
  same_last : last_of l.lines ≡ last_of l.initial.lines;
}

abbrev pub decreases-lines : goal.decreases-lines
decreases-lines l = length l.lines.said.items
