use Rattle.std.proofs.Common.{◌<◌, ◌≤◌, ◌-◌, true, length}
use Rattle.pair_set.specs.Sets.{pairs_of, limit_of}
use Rattle.bar_sight.specs.{Sight.AddsFrom, Looks.{IsClear, HasFound, IsPassed, AreLeft}}
use Rattle.bar_sight.proofs.row.Row.look_at_mains.Given as goal

abbrev pub invariant-loop-next : goal.invariant-loop-next
invariant-loop-next l =
    record {
      after : l.place < l.from;
      few : length (pairs_of l.found) ≤ limit_of l.found;
      adds : AddsFrom l.self l.place l.fn.found l.found;
      found : HasFound l.self l.place l.above l.from true l.found;
      passed : IsPassed l.self l.place l.above l.from l.passed;
      left : AreLeft l.self l.place l.above l.from l.left;
      clear : IsClear l.self l.place l.clear;
    }

abbrev pub decreases-loop-next : goal.decreases-loop-next
decreases-loop-next l = length l.self.bars.items - l.from
