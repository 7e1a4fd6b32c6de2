use Rattle.std.proofs.Common.{◌≡◌, ◌+◌, ◌≤◌, length, take}
use Rattle.jog_insert.specs.Building.{AreMarked, marks_in}
use Rattle.jog_insert.proofs.naming.free_number.Given as goal

abbrev pub invariant-loop-line : goal.invariant-loop-line
invariant-loop-line l = record {
  size : length l.taken.items ≡ length l.lines + 1;
  are : AreMarked (take l.line-index l.lines) l.taken.items;
  few : marks_in l.taken.items ≤ l.line-index;
}
