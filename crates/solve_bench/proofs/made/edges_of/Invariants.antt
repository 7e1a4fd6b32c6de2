use Rattle.cons_graph.specs.Constraints.{IsConstraintGraph}
use Rattle.solve_bench.proofs.made.edges_of.Given as goal

abbrev pub invariant-loop : goal.invariant-loop
invariant-loop l = IsConstraintGraph (record { vars = l.vars; edges = l.edges.items })

abbrev pub invariant-loop-2 : goal.invariant-loop-2
invariant-loop-2 l = IsConstraintGraph (record { vars = l.vars; edges = l.edges.items })
