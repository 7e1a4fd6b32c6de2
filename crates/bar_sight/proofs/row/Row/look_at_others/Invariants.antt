use Rattle.std.proofs.Common.{◌<◌, ◌≤◌, ◌-◌, false, length}
use Rattle.pair_set.specs.Sets.{pairs_of, limit_of}
use Rattle.bar_sight.specs.{Sight.AddsFrom, Looks.{IsClear, HasFound, IsLate}}
use Rattle.bar_sight.proofs.row.Row.look_at_others.Given as goal

abbrev pub invariant-loop-next : goal.invariant-loop-next
invariant-loop-next l =
    record {
      after : l.place < l.from;
      few : length (pairs_of l.found) ≤ limit_of l.found;
      adds : AddsFrom l.self l.place l.fn.found l.found;
      found : HasFound l.self l.place l.above l.from false l.found;
      late : IsLate l.self l.place l.above l.from l.late;
      clear : IsClear l.self l.place l.clear;
    }

abbrev pub decreases-loop-next : goal.decreases-loop-next
decreases-loop-next l = length l.self.bars.items - l.from
