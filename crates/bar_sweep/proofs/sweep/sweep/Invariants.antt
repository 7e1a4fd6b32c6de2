use Rattle.bar_sweep.specs.Sweeps.{HaveBegun}
use Rattle.bar_sweep.proofs.Swept.{IsRowOf, IsSwept}
use Rattle.bar_sweep.proofs.sweep.sweep.Given as goal

abbrev pub invariant-loop-place : goal.invariant-loop-place
invariant-loop-place l = record {
  row : IsRowOf l.self_rule l.turned l.fn.bars.items l.row;
  begun : HaveBegun l.row l.starts.items l.next;
  swept : IsSwept l.self_rule l.turned l.fn.bars.items l.place-items l.place-index l.fn.found l.found;
}
