use Rattle.std.proofs.Common.{◌≡◌, ◌≤◌, length}
use Rattle.stick_parse.specs.LinesLeft.{left, last_of}
use Rattle.stick_parse.proofs.cursor.Lines.next.Given as goal

abbrev pub invariant-lines : goal.invariant-lines
invariant-lines l = record {
  same_left : left l.self ≡ left l.initial.self;
  same_last : last_of l.self ≡ last_of l.initial.self;
  shorter : length l.self.said.items ≤ length l.initial.self.said.items;
}

abbrev pub decreases-lines : goal.decreases-lines
decreases-lines l = length l.self.said.items
