use Rattle.std.{proofs.Common.{◌≡◌, ◌≤◌, ◌==◌, length}, specs.List.list_any}
use Rattle.round_log.specs.Looks.{chain}
use Rattle.liao_wong.proofs.raises.Raises.comes_back.Given as goal

abbrev pub invariant-loop-n : goal.invariant-loop-n
invariant-loop-n l = record {
  in_log : l.n ≤ length l.self.raises;
  left : list_any (λ q. q.var == l.raise.var) (chain l.self.raises l.n)
      ≡ list_any (λ q. q.var == l.raise.var) (chain l.self.raises l.raise.prev);
}

abbrev pub decreases-loop-n : goal.decreases-loop-n
decreases-loop-n l = l.n
