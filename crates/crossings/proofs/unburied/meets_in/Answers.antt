use Rattle.std.proofs.Common.{◌≡◌, ℕ, ◌+◌, ◌<◌, Bool, List, MatchBool, length, get_or, sym, ap, subst, arith}
use Rattle.box_tree.specs.{declared.entries.{Group.Group, Entry.Entry}, Tree.IsTreeOf}
use Rattle.box_tree.proofs.Trees.{IsBarren, IsPassed, group_here, passed_none, passed_group, passed_into}
use Rattle.crossings.specs.{Pairs.Meets, Entries.AreEntriesFacing}
use Rattle.crossings.proofs.Walks.{MeetsEntry, barren_inside, meets_none}
use Rattle.crossings.proofs.unburied.meets_in.Goals.{else-group-eq0-via-then-group-eq0+else-meets_entry}
use Rattle.crossings.proofs.unburied.meets_in.Goals.{else-group-eq0-via-else-group-eq0}
use Rattle.crossings.proofs.unburied.meets_in.Goals as goal

pub loop-at-init : goal.loop-at-init
loop-at-init c =
    let parts = c.parts-parts.result in
    let tree = subst (λ (ss : List Entry). IsTreeOf ss parts.groups.now)
    (sym c.parts-parts.ensures.entries) c.parts-parts.ensures.tree in
    passed_none parts.entries.now parts.groups.now
    (MeetsEntry c.args.tech.now c.args.boxes.now c.args.number) tree

pub meets_none_inside-requires-clause-outer : goal.meets_none_inside-requires-clause-outer
meets_none_inside-requires-clause-outer c =
    let groups = c.parts-parts.result.groups.now in let at =
    c.loop-at.at in let read = c.index-parts-at in
    let group = get_or groups at read.result in let is = ap (λ (g : Group). get_or groups at g) read.is in
    (group_here c.args.tree.now (length c.args.tree.now) at groups group c.parts-parts.ensures.tree.groups_of
    c.loop-at-test.true is).placed.outer

pub loop-at-preserved-then-meets_none_inside : goal.loop-at-preserved-then-meets_none_inside
loop-at-preserved-then-meets_none_inside c =
    let parts = c.parts-parts.result in
    let entries = parts.entries.now in let groups = parts.groups.now in let at =
    c.loop-at.at in let read = c.index-parts-at in
    let group = get_or groups at read.result in let is = ap (λ (g : Group). get_or groups at g) read.is in
    let P = MeetsEntry c.args.tech.now c.args.boxes.now c.args.number in
    let tree = subst (λ (ss : List Entry). IsTreeOf ss groups) (sym c.parts-parts.ensures.entries)
    c.parts-parts.ensures.tree in
    let facing = subst (AreEntriesFacing c.args.boxes.now c.args.number) (sym c.parts-parts.ensures.entries)
    c.requires.tree in
    let barren = barren_inside c.args.tech.now c.args.boxes.now c.args.number entries groups at group facing
    tree c.loop-at-test.true is (c.meets_none_inside.ensures c.if-meets_none_inside.true) in
    passed_group entries groups P at group tree c.loop-at-test.true is barren c.loop-at.invariant

pub meets_entry-requires-clause-within : goal.meets_entry-requires-clause-within
meets_entry-requires-clause-within c =
    let groups = c.parts-parts.result.groups.now in let at =
    c.loop-at.at in let read = c.index-parts-at in
    let group = get_or groups at read.result in let is = ap (λ (g : Group). get_or groups at g) read.is in
    let run = (group_here c.args.tree.now (length c.args.tree.now) at groups group c.parts-parts.ensures.tree.groups_of
    c.loop-at-test.true is).ends in
    omega (arith, ap length c.parts-parts.ensures.entries, run)

pub loop-at-preserved : goal.loop-at-preserved
loop-at-preserved c =
    let parts = c.parts-parts.result in
    let entries = parts.entries.now in let groups = parts.groups.now in let at =
    c.loop-at.at in let read = c.index-parts-at in
    let group = get_or groups at read.result in let is = ap (λ (g : Group). get_or groups at g) read.is in
    let P = MeetsEntry c.args.tech.now c.args.boxes.now c.args.number in
    let tree = subst (λ (ss : List Entry). IsTreeOf ss groups) (sym c.parts-parts.ensures.entries)
    c.parts-parts.ensures.tree in
    elim c.else-group-eq0.branch [
      | else-group-eq0-via-then-group-eq0+else-meets_entry w ↦
          let barren : IsBarren entries group P =
          subst (λ (b : Bool). MatchBool b ((k : ℕ) × Meets c.args.tech.now c.args.boxes.now c.args.number k)
          (IsBarren entries group P)) w.if-meets_entry.false w.meets_entry.ensures in
          let past = passed_group entries groups P at group tree c.loop-at-test.true is barren
          c.loop-at.invariant in
          let next : at + 1 + group.inside ≡ at + 1 = omega (arith, w.if-group-eq0.true) in
          subst (λ (n : ℕ). IsPassed entries groups P n) next past
      | else-group-eq0-via-else-group-eq0 w ↦
          let some : 0 < group.inside = omega (arith, w.if-group-eq0.false) in
          passed_into entries groups P at group tree c.loop-at-test.true is some c.loop-at.invariant
    ]

pub returns : goal.returns
returns c =
    let parts = c.parts-parts.result in
    let facing = subst (AreEntriesFacing c.args.boxes.now c.args.number) (sym c.parts-parts.ensures.entries)
    c.requires.tree in
    let none = meets_none c.args.tech.now c.args.boxes.now c.args.number parts.entries.now parts.groups.now c.loop-at.at
    facing c.loop-at-test.false c.loop-at.invariant in
    (λ t. absurd cc, λ h. absurd (none h.0 h.1))
