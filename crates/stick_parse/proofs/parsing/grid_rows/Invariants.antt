use Rattle.std.proofs.Common.{◌≡◌, ◌≤◌, Bool, length}
use Rattle.stick_text.specs.Order.{InGrid}
use Rattle.stick_parse.specs.{LinesLeft.last_of, Parts.{rest_at, with_rows}}
use Rattle.stick_parse.proofs.parsing.grid_rows.Given as goal

abbrev pub invariant-lines : goal.invariant-lines
invariant-lines l = record {
  so_far : (named : Bool) → with_rows l.rows.items (rest_at (InGrid named) l.lines)
      ≡ rest_at (InGrid named) l.initial.lines;
  same_last : last_of l.lines ≡ last_of l.initial.lines;
  shorter : length l.lines.said.items ≤ length l.initial.lines.said.items;
}

abbrev pub decreases-lines : goal.decreases-lines
decreases-lines l = length l.lines.said.items
