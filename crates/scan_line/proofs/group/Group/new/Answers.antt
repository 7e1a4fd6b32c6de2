use Rattle.std.{proofs.{Common.{subst, List, ℕ, ◌<◌, length}, lemmas.List.Elements.All-same}, specs.List.All}
use Rattle.scan_line.specs.Levels.{IsLevelOf}
use Rattle.scan_line.proofs.{Grouped.{AreMembers, are_members}, group.Group.new.Goals.In_ok-members}
use Rattle.scan_line.proofs.group.Group.new.Goals as goal

members : (c : In_ok-members)
    → AreMembers c.args.axis c.args.coords.now c.args.items.now c.args.class c.in_ok-members.members.items
members c = are_members c.args.axis c.args.coords.now c.args.items.now c.args.class c.args.order.now
    c.in_ok-members.members.items c.requires.order (c.in_ok-members.ensures c.args.items.now c.requires.classes)

pub levels_of-requires-clause-among : goal.levels_of-requires-clause-among
levels_of-requires-clause-among c =
    let P : ℕ → Type 0 = λ k. k < length c.args.items.now in
    All-same P c.deref.result.now c.in_ok-members.members.items c.deref.ensures.value
    (members (goal.at.levels_of-requires-clause-among c).In_ok-members).in_range

pub returns : goal.returns
returns c =
    let axis = c.args.axis in
    let k = c.args.coords.now in
    let items = c.args.items.now in
    let members = members (goal.at.returns c).In_ok-members in
    record {
      in_range = members.in_range;
      in_order = members.in_order;
      each = members.each;
      levels = subst (λ (ks : List ℕ). All (IsLevelOf axis k items ks) c.in_ok-levels.levels.items)
          c.deref.ensures.value c.in_ok-levels.ensures;
    }
