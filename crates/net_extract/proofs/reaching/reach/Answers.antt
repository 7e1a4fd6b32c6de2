use Rattle.std.proofs.Common.{[], length}
use Rattle.box_tree.{specs.UnvisitedTrees.IsUnvisited, proofs.Growth.gathered_as}
use Rattle.net_extract.proofs.Steps.{gathered_within, tag_within, tree_reached}
use Rattle.net_extract.proofs.reaching.reach.Goals as goal

pub unvisited-requires-clause-unvisited_tree : goal.unvisited-requires-clause-unvisited_tree
unvisited-requires-clause-unvisited_tree c = rw c.as_slice-marks.ensures.value c.requires.unvisited_tree

pub visit-requires : goal.visit-requires
visit-requires c =
    let count = length c.args.frontier.now.marks.items in
    gathered_within _ count _ _ c.as_slice.ensures.value
    (λ y u. tag_within count y c.requires.unvisited_tree.tags u.of) c.in_ok-unvisited.ensures.found

pub returns : goal.returns
returns c =
    let entries = c.args.unvisited_tree.now.parts.entries.items in
    let found = c.unvisited.new.found.items in
    tree_reached c.as_slice-marks.result.now found c.as_slice.result.now c.as_slice-marks.ensures.value
    c.as_slice.ensures.value c.unvisited.ensures.parts c.in_ok-unvisited.ensures.unvisited_tree
    (gathered_as (IsUnvisited entries c.args.query.now c.as_slice-marks.result.now) _ [] found
    (λ y u. (u.of, u.left)) (λ y h. record { of = h.0; left = h.1 }) c.in_ok-unvisited.ensures.found)
    c.in_ok-visit.ensures
