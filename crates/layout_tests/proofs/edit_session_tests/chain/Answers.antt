use Rattle.std.proofs.{Common.{◌+◌, pos, List, sym, subst, arith}, lemmas.Int.ints}
use Rattle.cons_graph.specs.declared.edges.{Edge.Edge, Why.TheVariants.Space}
use Rattle.cons_graph.specs.Constraints.{IsConstraintGraph, IsEdgeAmong}
use Rattle.edit_session.proofs.Kept.{graph_more}
use Rattle.layout_tests.proofs.edit_session_tests.chain.Goals as goal

pub loop-v-preserved : goal.loop-v-preserved
loop-v-preserved c =
    let e : Edge = record { from = c.loop-v.v; to = c.loop-v.v + 1; len = pos 1; why = Space } in
    let P : List Edge → Type 0 = λ es. IsConstraintGraph (record { vars = c.args.vars; edges = es }) in
    let A : Edge → Type 0 = λ d. IsEdgeAmong c.args.vars d in
    let among : IsEdgeAmong c.args.vars e =
    record {
      from_in_range = omega arith;
      to_in_range = omega arith;
      ends_differ = (λ i. omega arith);
      not_into_origin = (λ i. omega arith);
      length_low = omega (arith, ints);
      length_high = omega (arith, ints);
    } in
    subst P (sym c.in_ok-push.ensures.items)
    (graph_more c.args.vars c.loop-v.edges.items c.edge.result c.loop-v.invariant
    (subst A (sym c.edge.ensures) among))
