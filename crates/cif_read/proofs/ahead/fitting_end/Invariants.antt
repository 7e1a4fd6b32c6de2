use Rattle.std.proofs.Common.{◌≡◌, drop}
use Rattle.cif_read.specs.Ahead.{fitting_end}
use Rattle.cif_read.proofs.ahead.fitting_end.Given as goal

abbrev pub invariant-loop-portion : goal.invariant-loop-portion
invariant-loop-portion l = fitting_end l.from l.portions ≡ fitting_end l.end (drop l.portion-index l.portions)
