use Rattle.std.proofs.{Common.{ℕ, ◌+◌, subst, arith}, lemmas.Result.IfOk-weaker}
use Rattle.box_tree.{specs.Grown.IsSubtree, proofs.Trees.stands_after}
use Rattle.box_tree.proofs.grow.+halves.Goals as goal

pub put_together-requires-clause-there : goal.put_together-requires-clause-there
put_together-requires-clause-there g t c =
    let before = stands_after c.args.sorted.now.entries.now c.args.start c.middle_of-middle.result
    (c.args.space.free + 1) c.in_ok-left.field-0 (rw c.in_ok-left.was at c.join-left.ensures.first) in
    omega (arith, before)

pub returns : goal.returns
returns g t c =
    let entries = c.args.sorted.now.entries.now in let middle = c.middle_of-middle.result in
    let left = rw c.in_ok-left.was at c.join-left.ensures.first in
    let right = rw c.in_ok-right.was at c.join-left.ensures.second in
    let alone = subst (λ (free : ℕ). IsSubtree entries middle c.args.end free c.in_ok-right.field-0)
    c.space_for-apart.ensures right in
    IfOk-weaker c.put_together.result _ _
    (λ both holds. holds entries c.args.start middle c.args.end left alone) c.put_together.ensures
