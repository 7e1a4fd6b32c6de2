use Rattle.flat_check.specs.Clear.{AreRunsClear}
use Rattle.flat_check.proofs.pairs.are_runs_clear.Given as goal

abbrev pub invariant-loop-at : goal.invariant-loop-at
invariant-loop-at l = AreRunsClear l.own l.others l.question l.range.from l.at
