use Rattle.std.proofs.Common.{◌+◌, List, length, get_or, sym, ap, subst, arith}
use Rattle.box_tree.{specs.{declared.entries.{Group.Group, Entry.Entry}, Tree.IsTreeOf}, proofs.Trees.group_here}
use Rattle.crossings.specs.Entries.{AreEntriesFacing}
use Rattle.crossings.proofs.{MetEntries.{met_all, met_barren, met_group, met_into, met_none}, Walks.barren_inside}
use Rattle.crossings.proofs.bad_pairs.add_met.Goals as goal

pub loop-at-init : goal.loop-at-init
loop-at-init c =
    let parts = c.parts-parts.result in
    let tree = subst (λ (ss : List Entry). IsTreeOf ss parts.groups.now)
    (sym c.parts-parts.ensures.entries) c.parts-parts.ensures.tree in
    met_none c.args.tech.now c.args.boxes.now c.args.number parts.entries.now parts.groups.now
    c.args.found.now.items tree

pub meets_none_inside-requires-clause-outer : goal.meets_none_inside-requires-clause-outer
meets_none_inside-requires-clause-outer c =
    let groups = c.parts-parts.result.groups.now in let at =
    c.loop-at.at in let read = c.index-parts-at in
    let group = get_or groups at read.result in let is = ap (λ (g : Group). get_or groups at g) read.is in
    (group_here c.args.tree.now (length c.args.tree.now) at groups group c.parts-parts.ensures.tree.groups_of
    c.loop-at-test.true is).placed.outer

pub loop-at-preserved-then-meets_none_inside : goal.loop-at-preserved-then-meets_none_inside
loop-at-preserved-then-meets_none_inside c =
    let parts = c.parts-parts.result in
    let entries = parts.entries.now in let groups = parts.groups.now in let at =
    c.loop-at.at in let read = c.index-parts-at in
    let group = get_or groups at read.result in let is = ap (λ (g : Group). get_or groups at g) read.is in
    let tree = subst (λ (ss : List Entry). IsTreeOf ss groups) (sym c.parts-parts.ensures.entries)
    c.parts-parts.ensures.tree in
    let facing = subst (AreEntriesFacing c.args.boxes.now c.args.number) (sym c.parts-parts.ensures.entries)
    c.requires.tree in
    let barren = barren_inside c.args.tech.now c.args.boxes.now c.args.number entries groups at group facing
    tree c.loop-at-test.true is (c.meets_none_inside.ensures c.if-meets_none_inside.true) in
    met_barren c.args.tech.now c.args.boxes.now c.args.number entries groups c.args.found.now.items at group
    c.loop-at.found.items tree c.loop-at-test.true is barren c.loop-at.invariant

pub add_met_entries-requires-clause-within : goal.add_met_entries-requires-clause-within
add_met_entries-requires-clause-within c =
    let groups = c.parts-parts.result.groups.now in let at =
    c.loop-at.at in let read = c.index-parts-at in
    let group = get_or groups at read.result in let is = ap (λ (g : Group). get_or groups at g) read.is in
    let run = (group_here c.args.tree.now (length c.args.tree.now) at groups group c.parts-parts.ensures.tree.groups_of
    c.loop-at-test.true is).ends in
    omega (arith, ap length c.parts-parts.ensures.entries, run)

pub loop-at-preserved-in-Continue-1 : goal.loop-at-preserved-in-Continue-1
loop-at-preserved-in-Continue-1 c =
    let parts = c.parts-parts.result in
    let entries = parts.entries.now in let groups = parts.groups.now in let at =
    c.loop-at.at in let read = c.index-parts-at in
    let group = get_or groups at read.result in let is = ap (λ (g : Group). get_or groups at g) read.is in
    let tree = subst (λ (ss : List Entry). IsTreeOf ss groups) (sym c.parts-parts.ensures.entries)
    c.parts-parts.ensures.tree in
    met_group c.args.tech.now c.args.boxes.now c.args.number entries groups c.args.found.now.items at (at + 1)
    group c.loop-at.found.items c.add_met_entries.new.found.items tree c.loop-at-test.true is
    (omega (arith, c.if-group-eq0.true)) c.loop-at.invariant c.in_ok-add_met_entries.ensures

pub loop-at-preserved : goal.loop-at-preserved
loop-at-preserved c =
    let parts = c.parts-parts.result in
    let entries = parts.entries.now in let groups = parts.groups.now in let at =
    c.loop-at.at in let read = c.index-parts-at in
    let group = get_or groups at read.result in let is = ap (λ (g : Group). get_or groups at g) read.is in
    let tree = subst (λ (ss : List Entry). IsTreeOf ss groups) (sym c.parts-parts.ensures.entries)
    c.parts-parts.ensures.tree in
    met_into c.args.tech.now c.args.boxes.now c.args.number entries groups c.args.found.now.items at group
    c.loop-at.found.items tree c.loop-at-test.true is (omega (arith, c.if-group-eq0.false)) c.loop-at.invariant

pub returns : goal.returns
returns c =
    let parts = c.parts-parts.result in
    let facing = subst (AreEntriesFacing c.args.boxes.now c.args.number) (sym c.parts-parts.ensures.entries)
    c.requires.tree in
    met_all c.args.tech.now c.args.boxes.now c.args.number parts.entries.now parts.groups.now c.args.found.now.items
    c.loop-at.at c.loop-at.found.items facing c.loop-at-test.false c.loop-at.invariant
