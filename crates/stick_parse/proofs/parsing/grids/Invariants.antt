use Rattle.std.proofs.Common.{◌≡◌, [], length}
use Rattle.stick_text.specs.Order.{InGrid, AtEnd}
use Rattle.stick_parse.specs.{LinesLeft.last_of, Parts.{rest_at, with_grid, with_grids}}
use Rattle.stick_parse.proofs.parsing.grids.Given as goal

abbrev pub invariant-lines : goal.invariant-lines
invariant-lines l = record {
  so_far : with_grids l.grids.items (rest_at (AtEnd l.named) l.lines)
      ≡ with_grids [] (with_grid l.fn.line l.fn.name (rest_at (InGrid l.named) l.fn.lines));
  same_last : last_of l.lines ≡ last_of l.initial.lines;
}

abbrev pub decreases-lines : goal.decreases-lines
decreases-lines l = length l.lines.said.items
