use Rattle.std.proofs.Common.{◌≡◌, ◌++◌, map, take, drop}
use Rattle.box_tree.specs.Retagged.{retagged}
use Rattle.box_tree.proofs.retagging.retag_groups.Given as goal

abbrev pub invariant-loop-k : goal.invariant-loop-k
invariant-loop-k l =
    l.groups.items
    ≡ map (retagged l.firsts l.entries) (take l.k l.fn.groups.items) ++ drop l.k l.fn.groups.items
