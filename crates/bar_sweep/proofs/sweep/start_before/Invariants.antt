use Rattle.bar_sight.specs.Sight.{IsSameRow}
use Rattle.bar_sweep.specs.Sweeps.{HaveBegun}
use Rattle.bar_sweep.proofs.sweep.start_before.Given as goal

abbrev pub invariant-loop-next : goal.invariant-loop-next
invariant-loop-next l = record {
  same : IsSameRow l.fn.row l.row;
  begun : HaveBegun l.row l.starts l.next;
}
