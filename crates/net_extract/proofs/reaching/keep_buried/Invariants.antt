use Rattle.std.proofs.Common.{take}
use Rattle.box_tree.specs.Found.{AreGathered}
use Rattle.net_extract.specs.Spreading.{IsOfPair}
use Rattle.net_extract.proofs.reaching.keep_buried.Given as goal

abbrev pub invariant-loop-y : goal.invariant-loop-y
invariant-loop-y l =
    AreGathered
    (IsOfPair l.ground.tech.now l.ground.boxes.now l.ground.pieces.now.placed.items l.box_no
    (take l.y-index l.numbers)) l.fn.kept.items l.kept.items
