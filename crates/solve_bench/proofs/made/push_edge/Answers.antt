use Rattle.std.proofs.Common.{List, sym, subst}
use Rattle.cons_graph.specs.{declared.edges.Edge.Edge, Constraints.IsConstraintGraph}
use Rattle.solve_bench.proofs.Reaching.{one_more}
use Rattle.solve_bench.proofs.made.push_edge.Goals as goal

pub returns : goal.returns
returns c =
    let P : List Edge → Type 0 = λ l. IsConstraintGraph (record { vars = c.args.vars; edges = l }) in
    subst P (sym c.in_ok-push.ensures.items)
    (one_more c.args.vars c.args.edges.now.items c.args.edge c.requires.graph c.requires.among)
