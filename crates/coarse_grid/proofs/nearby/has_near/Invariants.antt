use Rattle.std.proofs.Common.{◌-◌, length}
use Rattle.box_tree.proofs.Trees.{IsPassed}
use Rattle.coarse_grid.proofs.NearGroups.{NearEntry}
use Rattle.coarse_grid.proofs.nearby.has_near.Given as goal

abbrev pub invariant-loop-at : goal.invariant-loop-at
invariant-loop-at l = IsPassed l.parts.entries.items l.parts.groups.items
    (NearEntry l.tech l.coords l.items l.i) l.at

abbrev pub decreases-loop-at : goal.decreases-loop-at
decreases-loop-at l = length l.parts.groups.items - l.at
