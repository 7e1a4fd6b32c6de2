use Rattle.cons_graph.specs.Constraints.{IsConstraintGraph}
use Rattle.layout_tests.proofs.edit_session_tests.chain.Given as goal

abbrev pub invariant-loop-v : goal.invariant-loop-v
invariant-loop-v l = IsConstraintGraph (record { vars = l.vars; edges = l.edges.items })
