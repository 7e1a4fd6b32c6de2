use Rattle.flat_check.specs.Clear.{AreFree}
use Rattle.flat_check.proofs.pairs.are_free.Given as goal

abbrev pub invariant-loop-place : goal.invariant-loop-place
invariant-loop-place l = AreFree l.others l.other l.own l.group.start l.place l.question
