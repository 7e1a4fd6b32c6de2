use Rattle.expand.proofs.CrossVariables.{CrossesSoFar}
use Rattle.expand.proofs.variables.crosses.Given as goal

abbrev pub invariant-loop-wire : goal.invariant-loop-wire
invariant-loop-wire l = CrossesSoFar l.cell l.wire-index l.across l.up l.crosses.items
