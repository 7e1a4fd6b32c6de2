use Rattle.std.proofs.{Common.{arith, Some, [], ◌+◌, refl, subst}, lemmas.Int.ints}
use Rattle.box_tree.specs.{Queries.IsFar, UnvisitedTrees.entry_in}
use Rattle.box_tree.proofs.{Within.too_far, Walk.{walked_past, walked_into}}
use Rattle.net_extract.specs.Lists.{tags_of}
use Rattle.net_extract.specs.Nearby.{AreOfTwo, query_of}
use Rattle.net_extract.proofs.Nearby.{found_all, found_enough, sought_leaf}
use Rattle.net_extract.proofs.over.find_on.Goals as goal

pub loop-at-preserved-then-gap_box-near : goal.loop-at-preserved-then-gap_box-near
loop-at-preserved-then-gap_box-near c =
    let parts = c.args.parts.now in
    let near = c.args.near.now in
    let at = c.loop-at.at in
    let group = c.group_of-group.result.now in
    let g = c.group_of-group.ensures in
    let far : IsFar near.area (Some near.reach) group.outer =
    λ n. omega (arith, ints, c.if-gap_box-near.true, c.gap_box.ensures, n) in
    record {
      walked = walked_past parts (query_of near) [] (tags_of c.args.found.now.items) at (at + (1 + group.inside)) group
          (tags_of c.loop-at.found.items) (omega arith) g
          (λ p low high holds none.
          too_far (query_of near).question near.area group.outer (entry_in parts p) (Some near.reach) refl far
          (g.bounded p low high).outer holds)
          c.loop-at.invariant.walked;
      from = c.loop-at.invariant.from;
    }

pub loop-at-preserved-then-group-eq0 : goal.loop-at-preserved-then-group-eq0
loop-at-preserved-then-group-eq0 c =
    let parts = c.args.parts.now in
    let group = c.group_of-group.result.now in
    sought_leaf parts (query_of c.args.near.now) c.loop-at.at group (group.start + group.count) c.args.found.now.items
    c.loop-at.found.items c.find_within.new.found.items c.group_of-group.ensures c.if-group-eq0.true refl
    c.in_ok-find_within.ensures.tags c.in_ok-find_within.ensures.entries c.loop-at.invariant

pub loop-at-preserved : goal.loop-at-preserved
loop-at-preserved c =
    let group = c.group_of-group.result.now in
    record {
      walked = walked_into c.args.parts.now (query_of c.args.near.now) [] (tags_of c.args.found.now.items) c.loop-at.at
          group (tags_of c.loop-at.found.items) c.group_of-group.ensures c.if-group-eq0.false
          c.loop-at.invariant.walked;
      from = c.loop-at.invariant.from;
    }

pub returns-then-is_of_two : goal.returns-then-is_of_two
returns-then-is_of_two c =
    let parts = c.args.parts.now in
    let group = c.group_of-group.result.now in
    found_enough parts (query_of c.args.near.now) c.loop-at.at group (group.start + group.count)
    c.args.found.now.items c.loop-at.found.items c.find_within.new.found.items c.group_of-group.ensures
    c.if-group-eq0.true refl (subst AreOfTwo c.as_slice.ensures.value (c.is_of_two.ensures.0 c.if-is_of_two.true))
    c.in_ok-find_within.ensures.tags c.in_ok-find_within.ensures.entries c.loop-at.invariant

pub returns : goal.returns
returns c = found_all c.args.parts.now (query_of c.args.near.now) c.loop-at.at c.args.found.now.items
    c.loop-at.found.items (omega arith) c.loop-at.invariant
