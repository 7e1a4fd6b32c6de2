use Rattle.cons_graph.specs.Solutions.{value_of}
use Rattle.slack_pack.specs.Slacks.{IsLeastAllowed}
use Rattle.slack_pack.proofs.lowering.least_allowed.Given as goal

abbrev pub invariant-loop-k : goal.invariant-loop-k
invariant-loop-k l = IsLeastAllowed l.edges (value_of l.x) l.slacks l.numbers l.k-index l.start l.least
