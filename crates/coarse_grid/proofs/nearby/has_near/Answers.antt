use Rattle.std.proofs.Common.{◌≡◌, ℕ, ◌+◌, ◌<◌, Bool, MatchBool, length, sym, subst, arith}
use Rattle.box_tree.{specs.declared.entries.Group.Group, proofs.Trees.{IsPassed, group_here, passed_group, passed_into}}
use Rattle.coarse_grid.specs.Nearby.{HasNear, IsFarRun}
use Rattle.coarse_grid.proofs.NearGroups.{NearEntry, barren_run, group_read, none_passed}
use Rattle.coarse_grid.proofs.nearby.has_near.Goals.{else-group-eq0-via-then-group-eq0+else-has_near_in}
use Rattle.coarse_grid.proofs.nearby.has_near.Goals.{else-group-eq0-via-else-group-eq0}
use Rattle.coarse_grid.proofs.nearby.has_near.Goals as goal

pub loop-at-preserved-then-left_out : goal.loop-at-preserved-then-left_out
loop-at-preserved-then-left_out c =
    let tech = c.args.tech.now in
    let coords = c.args.coords.now in
    let items = c.args.items.now in
    let parts = c.args.tree.now.parts in
    let group = c.index-group.result.now in
    let at = c.loop-at.at in
    let lt : at < length parts.groups.items = omega arith in
    let read = group_read parts at group lt c.index-group.ensures in
    let far = subst (λ (g : Group). IsFarRun tech coords items parts g c.args.i) (sym read)
    (c.is_left_out-left_out.ensures c.if-left_out.true) in
    passed_group parts.entries.items parts.groups.items (NearEntry tech coords items c.args.i) at
    group
    c.requires.tree.parts.tree lt c.index-group.ensures
    (barren_run tech coords items parts group c.args.i far) c.loop-at.invariant

pub has_near_in-requires-clause-within : goal.has_near_in-requires-clause-within
has_near_in-requires-clause-within c =
    let parts = c.args.tree.now.parts in
    let lt : c.loop-at.at < length parts.groups.items = omega arith in
    (group_here parts.entries.items (length parts.entries.items) c.loop-at.at parts.groups.items
    c.index-group.result.now c.requires.tree.parts.tree.groups_of lt c.index-group.ensures).ends

pub loop-at-preserved : goal.loop-at-preserved
loop-at-preserved c =
    let tech = c.args.tech.now in
    let coords = c.args.coords.now in
    let items = c.args.items.now in
    let i = c.args.i in
    let parts = c.args.tree.now.parts in
    let entries = parts.entries.items in
    let groups = parts.groups.items in
    let group = c.index-group.result.now in
    let at = c.loop-at.at in
    let P = NearEntry tech coords items i in
    let lt : at < length groups = omega arith in
    elim c.else-group-eq0.branch [
      | else-group-eq0-via-then-group-eq0+else-has_near_in w ↦
          let far : IsFarRun tech coords items parts group i = subst
          (λ (b : Bool). MatchBool b (HasNear tech coords items i) (IsFarRun tech coords items parts group i))
          w.if-has_near_in.false w.has_near_in.ensures in
          let past = passed_group entries groups P at group c.requires.tree.parts.tree lt c.index-group.ensures
          (barren_run tech coords items parts group i far) c.loop-at.invariant in
          let next : at + 1 + group.inside ≡ at + 1 = omega (arith, w.if-group-eq0.true) in
          subst (λ (n : ℕ). IsPassed entries groups P n) next past
      | else-group-eq0-via-else-group-eq0 w ↦
          let some : 0 < group.inside = omega (arith, w.if-group-eq0.false) in
          passed_into entries groups P at group c.requires.tree.parts.tree lt c.index-group.ensures some
          c.loop-at.invariant
    ]

pub returns : goal.returns
returns c = none_passed c.args.tech.now c.args.coords.now c.args.items.now c.args.tree.now.class c.args.tree.now.parts
    c.args.i c.loop-at.at c.requires.tree.entries c.requires.tree.parts (omega arith) c.loop-at.invariant
