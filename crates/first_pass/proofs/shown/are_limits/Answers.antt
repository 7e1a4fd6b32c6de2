use Rattle.std.proofs.{Common.{List, subst, arith, All, Contains}, lemmas.List.{take_all, Elements.All-more}}
use Rattle.cons_graph.specs.declared.edges.Edge.{Edge}
use Rattle.first_pass.proofs.shown.are_limits.Goals as goal

pub loop-k-preserved : goal.loop-k-preserved
loop-k-preserved c = All-more (Contains c.args.limits.now) c.args.edges.now c.loop-k.k _ c.loop-k-test.true
    c.loop-k.invariant (c.is_limit.ensures c.if-not-is_limit.false)

pub returns : goal.returns
returns c = λ t. subst (λ (es : List Edge). All (Contains c.args.limits.now) es)
    (take_all c.loop-k.k c.args.edges.now (omega arith)) c.loop-k.invariant
