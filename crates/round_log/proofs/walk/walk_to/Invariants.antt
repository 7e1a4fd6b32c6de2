use Rattle.std.proofs.Common.{◌≡◌, ◌≤◌, ◌++◌, length}
use Rattle.round_log.{specs.{Looks.{chain, latest}, Logs.raises_in}, proofs.Ends.numbers}
use Rattle.round_log.proofs.walk.walk_to.Given as goal

abbrev pub invariant-loop-n : goal.invariant-loop-n
invariant-loop-n l = record {
  in_log : l.n ≤ length (raises_in l.log);
  left : l.walk.items ++ numbers (chain (raises_in l.log) l.n)
      ≡ numbers (chain (raises_in l.log) (latest (raises_in l.log) l.var));
}

abbrev pub decreases-loop-n : goal.decreases-loop-n
decreases-loop-n l = l.n
