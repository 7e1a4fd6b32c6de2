use Rattle.std.proofs.Common.{refl, ap, ◌∙◌}
use Rattle.cons_graph.{specs.Solutions.{Meets, value_of}, proofs.Lists.{All-take_more_of, All-take_end_of}}
use Rattle.cons_graph.proofs.constraint_graph.Graph.holds.Goals as goal

pub loop-edge-preserved : goal.loop-edge-preserved
loop-edge-preserved c =
    All-take_more_of (Meets (value_of c.args.x.now)) c.deref-edge-items.result.now c.args.self.now.edges _ _
    (c.deref-edge-items.ensures.value ∙ ap (λ g. g.edges) c.self.view_is) c.loop-edge-test.true
    c.loop-edge.invariant (c.if-not-meets.ensures.0 refl)

pub returns : goal.returns
returns c = (
  λ _. All-take_end_of (Meets (value_of c.args.x.now)) c.deref-edge-items.result.now c.args.self.now.edges _
      (c.deref-edge-items.ensures.value ∙ ap (λ g. g.edges) c.self.view_is) c.loop-edge-test.false
      c.loop-edge.invariant,
  λ _. refl,
)
