use Rattle.std.proofs.Common.{◌≡◌, true, false, refl}
use Rattle.cons_graph.proofs.Tests.{no_repeat_from, no_repeat_more, repeat_found}
use Rattle.cons_graph.proofs.walks.no_tail_twice.Goals as goal

pub returns-then-leaves : goal.returns-then-leaves
returns-then-leaves c = (
  λ t. absurd (cc),
  λ h.
      absurd (repeat_found c.args.edges.now c.args.walk.now c.loop-i.i c.loop-i-test.true
      (c.if-leaves.ensures.0 refl) h),
)

pub loop-i-preserved : goal.loop-i-preserved
loop-i-preserved c = no_repeat_more c.args.edges.now c.args.walk.now c.loop-i.i c.loop-i-test.true
    (λ h. let f : false ≡ true = c.if-leaves.ensures.1 h in cc) c.loop-i.invariant

pub returns : goal.returns
returns c = (
  λ t. no_repeat_from c.args.edges.now c.args.walk.now c.loop-i.i c.loop-i-test.false c.loop-i.invariant,
  λ h.
      refl,
)
