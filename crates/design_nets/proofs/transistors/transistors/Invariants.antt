use Rattle.design_nets.proofs.Crossed.{AreCrossedBelow}
use Rattle.design_nets.proofs.transistors.transistors.Given as goal

abbrev pub invariant-loop-k : goal.invariant-loop-k
invariant-loop-k l = AreCrossedBelow l.tech l.plan l.masters l.layouts l.k l.all.items
