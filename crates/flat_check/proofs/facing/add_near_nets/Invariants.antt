use Rattle.std.proofs.Common.{◌≤◌, max}
use Rattle.box_tree.specs.Found.{AreGathered}
use Rattle.flat_check.specs.Partners.{HaveNearPiece}
use Rattle.rule_breaks.specs.Reaches.{spacing_of_rule}
use Rattle.flat_check.proofs.facing.add_near_nets.Given as goal

abbrev pub invariant-loop-i : goal.invariant-loop-i
invariant-loop-i l = (l.i ≤ max l.first l.end)
    × AreGathered (HaveNearPiece l.flat l.layer (spacing_of_rule l.flat.tech.now l.rule) l.first l.i) l.fn.found.items
    l.found.items
