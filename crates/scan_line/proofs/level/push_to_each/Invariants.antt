use Rattle.std.proofs.Common.{◌≤◌, ◌<◌, ◌+◌}
use Rattle.scan_line.proofs.Lists.{AreGrown}
use Rattle.scan_line.proofs.level.push_to_each.Given as goal

abbrev pub invariant-loop-t : goal.invariant-loop-t
invariant-loop-t l = record {
  grown : AreGrown l.first l.t l.item l.fn.lists.items l.lists.items;
  not_past : l.last + 1 < l.first → l.t ≤ l.first;
}
