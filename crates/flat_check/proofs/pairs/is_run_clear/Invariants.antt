use Rattle.std.proofs.Common.{◌-◌, length}
use Rattle.box_tree.proofs.Trees.{IsPassed}
use Rattle.flat_check.proofs.Clear.{IsAsked}
use Rattle.flat_check.proofs.pairs.is_run_clear.Given as goal

abbrev pub invariant-loop-at : goal.invariant-loop-at
invariant-loop-at l =
    IsPassed l.others.entries.now l.others.groups.now (IsAsked l.own l.group l.question) l.at

abbrev pub decreases-loop-at : goal.decreases-loop-at
decreases-loop-at l = length l.others.groups.now - l.at
