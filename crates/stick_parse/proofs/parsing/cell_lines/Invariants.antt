use Rattle.std.proofs.Common.{◌≡◌, ℕ, ◌≤◌, Bool, length}
use Rattle.stick_text.specs.Order.{InCell}
use Rattle.stick_parse.specs.{LinesLeft.last_of, Parts.{rest_at, with_lines}}
use Rattle.stick_parse.proofs.parsing.cell_lines.Given as goal

abbrev pub invariant-lines : goal.invariant-lines
invariant-lines l = record {
  so_far : (named : Bool) (n : ℕ) → with_lines l.inner.items (rest_at (InCell named n) l.lines)
      ≡ rest_at (InCell named n) l.initial.lines;
  same_last : last_of l.lines ≡ last_of l.initial.lines;
  shorter : length l.lines.said.items ≤ length l.initial.lines.said.items;
}

abbrev pub decreases-lines : goal.decreases-lines
decreases-lines l = length l.lines.said.items
