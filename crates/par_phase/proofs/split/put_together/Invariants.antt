use Rattle.par_phase.specs.Answers.{ArePutTogether}
use Rattle.par_phase.proofs.split.put_together.Given as goal

-- those of the shares so far
abbrev pub invariant-loop-part : goal.invariant-loop-part
invariant-loop-part g l = ArePutTogether l.yielded l.all.items
