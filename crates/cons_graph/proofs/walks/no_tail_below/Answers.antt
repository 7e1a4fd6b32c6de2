use Rattle.cons_graph.proofs.Tests.{all_tails_from, tail_below}
use Rattle.std.proofs.Common.{refl}
use Rattle.cons_graph.proofs.walks.no_tail_below.Goals as goal

pub returns-then-edges-k : goal.returns-then-edges-k
returns-then-edges-k c = (
  λ t. absurd (cc),
  λ h.
      absurd (tail_below c.args.edges.now c.args.walk.now c.args.v c.loop-k.k-index c.loop-k-test.true
      c.if-edges-k.true h),
)

pub returns : goal.returns
returns c = (
  λ t. all_tails_from c.args.edges.now c.args.walk.now c.args.v c.loop-k.k-index c.loop-k-test.false
      c.loop-k.invariant,
  λ h. refl,
)
