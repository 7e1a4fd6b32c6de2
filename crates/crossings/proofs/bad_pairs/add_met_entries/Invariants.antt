use Rattle.box_tree.specs.Found.{AreGathered}
use Rattle.crossings.specs.Pairs.{IsMetAt}
use Rattle.crossings.proofs.bad_pairs.add_met_entries.Given as goal

abbrev pub invariant-loop-place : goal.invariant-loop-place
invariant-loop-place l =
    AreGathered (IsMetAt l.tech l.boxes l.number l.parts.entries.now l.group.start l.place)
    l.fn.found.items l.found.items
