use Rattle.std.proofs.{Common.{◌∙◌, ◌+◌, false, length, drop, sym, subst, arith}, lemmas.List.get_or_read}
use Rattle.box_tree.{specs.declared.entries.Group.Group, proofs.Trees.group_here}
use Rattle.coarse_grid.{specs.Nearby.{IsFarRun, IsRunAlike}, proofs.NearGroups.{far_by_bounds, group_read}}
use Rattle.coarse_grid.proofs.nearby.is_left_out.Goals as goal

pub may_hold-requires-clause-group : goal.may_hold-requires-clause-group
may_hold-requires-clause-group c =
    let parts = c.args.tree.now.parts in
    (group_here parts.entries.items (length parts.entries.items) c.args.at parts.groups.items
    c.index-group.result.now c.requires.tree.parts.tree.groups_of c.requires.there c.index-group.ensures).placed

pub is_unbound-requires-clause-within : goal.is_unbound-requires-clause-within
is_unbound-requires-clause-within c =
    let parts = c.args.tree.now.parts in
    (group_here parts.entries.items (length parts.entries.items) c.args.at parts.groups.items
    c.index-group.result.now c.requires.tree.parts.tree.groups_of c.requires.there c.index-group.ensures).ends

pub is_unbound-requires-clause-alike : goal.is_unbound-requires-clause-alike
is_unbound-requires-clause-alike c =
    let parts = c.args.tree.now.parts in
    let read = group_read parts c.args.at c.index-group.result.now c.requires.there c.index-group.ensures in
    let counted = c.requires.tree.flags.counted in
    let there = c.requires.there in
    subst (IsRunAlike c.args.items.now parts) (sym read) (c.requires.tree.flags.alike c.args.at c.requires.there
    (sym (get_or_read c.args.tree.now.alike.items c.args.at c.index.result.now (omega arith) c.index.ensures false) ∙
    c.if-index.true))

pub returns-then-not-may_hold : goal.returns-then-not-may_hold
returns-then-not-may_hold c = λ t.
    let parts = c.args.tree.now.parts in
    let group = c.index-group.result.now in
    let read = group_read parts c.args.at group c.requires.there c.index-group.ensures in
    let here = group_here parts.entries.items (length parts.entries.items) c.args.at parts.groups.items
    group c.requires.tree.parts.tree.groups_of c.requires.there c.index-group.ensures in
    subst (λ (g : Group). IsFarRun c.args.tech.now c.args.coords.now c.args.items.now parts g c.args.i) read
    (far_by_bounds c.args.tech.now c.args.coords.now c.args.items.now c.args.tree.now.class parts
    group (drop (c.args.at + 1) parts.groups.items) c.args.query.now c.args.i
    c.requires.tree.entries.sound here
    c.requires.asked (c.may_hold.ensures c.if-not-may_hold.true))
