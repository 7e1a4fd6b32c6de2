use Rattle.std.proofs.{Common.{List, subst, arith, All}, lemmas.List.{take_all, Elements.All-more}}
use Rattle.cons_graph.specs.{declared.edges.Edge.Edge, Solutions.{Meets, value_of}}
use Rattle.first_pass.proofs.shown.are_met.Goals as goal

pub loop-edge-preserved : goal.loop-edge-preserved
loop-edge-preserved c = All-more (Meets (value_of c.args.x.now)) c.args.edges.now c.loop-edge.edge-index _
    c.loop-edge-test.true c.loop-edge.invariant (c.is_met.ensures c.if-not-is_met.false)

pub returns : goal.returns
returns c = λ t. subst (λ (es : List Edge). All (Meets (value_of c.args.x.now)) es)
    (take_all c.loop-edge.edge-index c.args.edges.now (omega arith)) c.loop-edge.invariant
