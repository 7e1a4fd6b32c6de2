use Rattle.std.proofs.Common.{◌+◌, length, drop, refl, arith}
use Rattle.box_tree.{specs.Queries.Holds, proofs.{Trees.{group_here, barren_bounds}, Taken.{taken_group, taken_here}}}
use Rattle.box_tree.proofs.Taken.{taken_barren, taken_into, taken_some, taken_all}
use Rattle.box_tree.proofs.search.search_few.Goals as goal

pub may_hold-requires-clause-group : goal.may_hold-requires-clause-group
may_hold-requires-clause-group c =
    let entries = c.args.entries.now in let groups = c.args.groups.now in let group =
    c.index-groups-next in
    (group_here entries (length entries) c.loop-next.next groups group.result c.requires.tree.groups_of
    c.loop-next-test.true group.is).placed

pub loop-next-preserved-then-not-may_hold : goal.loop-next-preserved-then-not-may_hold
loop-next-preserved-then-not-may_hold c =
    let entries = c.args.entries.now in let groups = c.args.groups.now in let group =
    c.index-groups-next in let at = c.loop-next.next in let P = Holds c.args.query.now in
    let here = group_here entries (length entries) at groups group.result c.requires.tree.groups_of
    c.loop-next-test.true group.is in
    let barren = barren_bounds entries (length entries) group.result (drop (at + 1) groups) P here
    (c.may_hold.ensures c.if-not-may_hold.true) in
    record {
      few = c.loop-next.invariant.few;
      taken = taken_barren entries groups P at (at + 1 + group.result.inside) group.result c.loop-next.found.items
          c.requires.tree c.loop-next-test.true group.is refl barren c.loop-next.invariant.taken;
    }

pub take_run-requires-clause-within : goal.take_run-requires-clause-within
take_run-requires-clause-within c =
    let entries = c.args.entries.now in let groups = c.args.groups.now in let group =
    c.index-groups-next in
    (group_here entries (length entries) c.loop-next.next groups group.result c.requires.tree.groups_of
    c.loop-next-test.true group.is).ends

pub take_run-requires-clause-taken : goal.take_run-requires-clause-taken
take_run-requires-clause-taken c =
    let group = c.index-groups-next in
    taken_here c.args.entries.now c.args.groups.now (Holds c.args.query.now) c.loop-next.next
    group.result c.loop-next.found.items c.loop-next-test.true group.is c.loop-next.invariant.taken

pub loop-next-preserved : goal.loop-next-preserved
loop-next-preserved c =
    let group = c.index-groups-next in
    record {
      few = c.loop-next.invariant.few;
      taken = taken_into c.args.entries.now c.args.groups.now (Holds c.args.query.now) c.loop-next.next
          group.result c.loop-next.found.items c.requires.tree c.loop-next-test.true group.is
          (omega (arith, c.if-group-eq0.false)) c.loop-next.invariant.taken;
    }

pub returns-then-len-most-clause-more : goal.returns-then-len-most-clause-more
returns-then-len-most-clause-more c = λ _. (
  taken_some c.args.entries.now c.args.query.now _ c.take_run.new.found.items c.in_ok-take_run.ensures,
  omega arith,
)

pub loop-next-preserved-else-len-most : goal.loop-next-preserved-else-len-most
loop-next-preserved-else-len-most c =
    let group = c.index-groups-next in
    record {
      taken = taken_group c.args.entries.now c.args.groups.now (Holds c.args.query.now)
          c.loop-next.next
          (c.loop-next.next + 1) group.result c.take_run.new.found.items c.requires.tree c.loop-next-test.true group.is
          (omega (arith, c.if-group-eq0.true)) c.in_ok-take_run.ensures;
      few = omega arith;
    }

pub returns-clause-all : goal.returns-clause-all
returns-clause-all c = λ _. (
  taken_all c.args.entries.now c.args.groups.now c.args.query.now c.loop-next.next c.loop-next.found.items
      c.loop-next-test.false c.loop-next.invariant.taken,
  c.loop-next.invariant.few,
)
