use Rattle.std.proofs.Common.{◌+◌, List, sym, ap, subst, arith}
use Rattle.cons_graph.specs.{declared.edges.Edge.Edge, Constraints.IsConstraintGraph}
use Rattle.edit_session.proofs.Spokes.{graph_wider}
use Rattle.layout_tests.proofs.edit_session_tests.spokes.Goals as goal

pub loop-v-preserved : goal.loop-v-preserved
loop-v-preserved c =
    let P : List Edge → Type 0 = λ es. IsConstraintGraph (record { vars = c.loop-v.v + 1; edges = es }) in
    subst P (sym c.in_ok-push.ensures.items)
    (graph_wider c.loop-v.v (c.loop-v.v + 1) c.loop-v.edges.items c.edge.result (omega arith)
    (let f = c.requires.few in omega arith) (ap (λ e. e.from) c.edge.ensures) (ap (λ e. e.to) c.edge.ensures)
    (ap (λ e. e.len) c.edge.ensures) c.loop-v.invariant)
