use Rattle.std.proofs.Common.{arith, ◌+◌}
use Rattle.box_tree.proofs.Walk.{covered_none, covered_more, covered_all, same_number}
use Rattle.box_tree.proofs.unvisited_trees.is_exhausted_inside.Goals as goal

pub loop-next-init : goal.loop-next-init
loop-next-init c = covered_none c.args.parts.now c.args.exhausted.now c.args.at c.group_of.result.now
    c.group_of.ensures c.requires.some

pub loop-next-preserved : goal.loop-next-preserved
loop-next-preserved c =
    let next = c.loop-next.next in
    let group = c.group_of-in-loop-next.result.now in
    covered_more c.args.parts.now c.args.exhausted.now c.args.at next (next + (1 + group.inside)) group (omega arith)
    c.group_of-in-loop-next.ensures c.if-exhausted-next.true c.loop-next.invariant

pub returns : goal.returns
returns c = λ t.
    covered_all c.args.parts.now c.args.exhausted.now c.args.at c.loop-next.next c.group_of.result.now
    c.group_of.ensures
    (same_number c.loop-next.next (c.args.at + 1 + c.group_of.result.now.inside) t) c.loop-next.invariant
