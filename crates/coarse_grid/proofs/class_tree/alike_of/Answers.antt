use Rattle.std.proofs.Common.{◌+◌, ◌<◌, length, sym, subst, arith}
use Rattle.box_tree.proofs.Trees.{group_here}
use Rattle.coarse_grid.{specs.Nearby.{AreFlagged, IsRunAlike}, proofs.{ClassTrees.flags_more, NearGroups.group_read}}
use Rattle.coarse_grid.proofs.class_tree.alike_of.Goals as goal

pub are_alike-requires-clause-within : goal.are_alike-requires-clause-within
are_alike-requires-clause-within c =
    let parts = c.args.parts.now in
    let lt : c.loop-at.at < length parts.groups.items = omega arith in
    (group_here parts.entries.items (length parts.entries.items) c.loop-at.at parts.groups.items
    c.index.result.now c.requires.parts.tree.groups_of lt c.index.ensures).ends

pub loop-at-preserved : goal.loop-at-preserved
loop-at-preserved c =
    let parts = c.args.parts.now in
    let items = c.args.items.now in
    let at = c.loop-at.at in
    let lt : at < length parts.groups.items = omega arith in
    let read = group_read parts at c.index.result.now lt c.index.ensures in
    subst (AreFlagged items parts (at + 1)) (sym c.in_ok-push.ensures.items)
    (flags_more items parts at c.loop-at.alike.items c.are_alike.result c.loop-at.invariant
    (λ t. subst (IsRunAlike items parts) read (c.are_alike.ensures t)))
