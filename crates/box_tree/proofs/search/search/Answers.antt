use Rattle.std.{proofs.Common.{◌≡◌, ℕ, ◌+◌, ◌<◌, Option, length, drop, subst, arith}, specs.Prelude.MatchOption}
use Rattle.box_tree.specs.Queries.{Holds, HoldsAt}
use Rattle.box_tree.proofs.Trees.{IsBarren, IsPassed, group_here, barren_bounds, passed_group, passed_into, passed_all}
use Rattle.box_tree.proofs.search.search.Goals as goal

pub may_hold-requires-clause-group : goal.may_hold-requires-clause-group
may_hold-requires-clause-group c =
    let entries = c.args.entries.now in let groups = c.args.groups.now in let group =
    c.index-groups-at in
    (group_here entries (length entries) c.loop-at.at groups group.result c.requires.tree.groups_of
    c.loop-at-test.true group.is).placed

pub loop-at-preserved-then-not-may_hold : goal.loop-at-preserved-then-not-may_hold
loop-at-preserved-then-not-may_hold c =
    let entries = c.args.entries.now in let groups = c.args.groups.now in let group =
    c.index-groups-at in let at = c.loop-at.at in let P = Holds c.args.query.now in
    let here = group_here entries (length entries) at groups group.result c.requires.tree.groups_of
    c.loop-at-test.true group.is in
    let barren = barren_bounds entries (length entries) group.result (drop (at + 1) groups) P here
    (c.may_hold.ensures c.if-not-may_hold.true) in
    passed_group entries groups P at group.result c.requires.tree c.loop-at-test.true group.is barren
    c.loop-at.invariant

pub search_run-requires-clause-within : goal.search_run-requires-clause-within
search_run-requires-clause-within c =
    let entries = c.args.entries.now in let groups = c.args.groups.now in let group =
    c.index-groups-at in
    (group_here entries (length entries) c.loop-at.at groups group.result c.requires.tree.groups_of
    c.loop-at-test.true group.is).ends

pub loop-at-preserved-in_default : goal.loop-at-preserved-in_default
loop-at-preserved-in_default c =
    let entries = c.args.entries.now in let groups = c.args.groups.now in let group =
    c.index-groups-at in let at = c.loop-at.at in let P = Holds c.args.query.now in
    let barren : IsBarren entries group.result P =
    subst (λ (r : Option ℕ). MatchOption r (IsBarren entries group.result P)
    (HoldsAt entries c.args.query.now)) c.in_default.is c.search_run.ensures in
    let past = passed_group entries groups P at group.result c.requires.tree c.loop-at-test.true group.is barren
    c.loop-at.invariant in
    let next : at + 1 + group.result.inside ≡ at + 1 = omega (arith, c.if-group-eq0.true) in
    subst (λ (n : ℕ). IsPassed entries groups P n) next past

pub loop-at-preserved : goal.loop-at-preserved
loop-at-preserved c =
    let group = c.index-groups-at in
    let some : 0 < group.result.inside = omega (arith, c.if-group-eq0.false) in
    passed_into c.args.entries.now c.args.groups.now (Holds c.args.query.now) c.loop-at.at
    group.result c.requires.tree c.loop-at-test.true group.is some c.loop-at.invariant

pub returns : goal.returns
returns c = λ k held. passed_all c.args.entries.now c.args.groups.now (Holds c.args.query.now)
    c.loop-at.at c.loop-at-test.false c.loop-at.invariant k held.entry held.there held.holds
