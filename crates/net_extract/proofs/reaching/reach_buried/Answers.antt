use Rattle.std.proofs.Common.{length}
use Rattle.net_extract.specs.Grounds.{placed_on}
use Rattle.net_extract.proofs.Steps.{buried_found, gathered_within, tag_within, tree_reached}
use Rattle.net_extract.proofs.reaching.reach_buried.Goals as goal

pub unvisited-requires-clause-unvisited_tree : goal.unvisited-requires-clause-unvisited_tree
unvisited-requires-clause-unvisited_tree c = rw c.as_slice-marks.ensures.value c.requires.unvisited_tree

pub keep_buried-requires-clause-numbers : goal.keep_buried-requires-clause-numbers
keep_buried-requires-clause-numbers c =
    let count = length (placed_on c.args.ground.now) in
    gathered_within _ count _ _ c.as_slice.ensures.value (λ y u. tag_within count y c.requires.tags u.of)
    c.in_ok-unvisited.ensures.found

pub visit-requires : goal.visit-requires
visit-requires c =
    let count = length c.args.frontier.now.marks.items in
    gathered_within _ count _ _ c.as_slice-2.ensures.value
    (λ y h. tag_within count y c.requires.unvisited_tree.tags h.0.of)
    (buried_found (placed_on c.args.ground.now) c.unvisited.new.found.items _ _ _ c.as_slice.ensures.value
    c.clear.ensures.items c.in_ok-unvisited.ensures.found c.in_ok-keep_buried.ensures)

pub returns : goal.returns
returns c =
    tree_reached c.as_slice-marks.result.now c.keep_buried.new.kept.items c.as_slice-2.result.now
    c.as_slice-marks.ensures.value c.as_slice-2.ensures.value c.unvisited.ensures.parts
    c.in_ok-unvisited.ensures.unvisited_tree
    (buried_found (placed_on c.args.ground.now) c.unvisited.new.found.items _ _ _ c.as_slice.ensures.value
    c.clear.ensures.items c.in_ok-unvisited.ensures.found c.in_ok-keep_buried.ensures)
    c.in_ok-visit.ensures
