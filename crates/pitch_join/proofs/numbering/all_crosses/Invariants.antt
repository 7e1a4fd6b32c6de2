use Rattle.pitch_join.proofs.Wires.{CrossesUpTo}
use Rattle.pitch_join.proofs.numbering.all_crosses.Given as goal

abbrev pub invariant-loop-master : goal.invariant-loop-master
invariant-loop-master l = CrossesUpTo l.masters l.master-index l.all.items
