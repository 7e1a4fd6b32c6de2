use Rattle.std.{proofs.Common.{◌≡◌, ◌≤◌, map, take}, specs.Prelude.All}
use Rattle.checked_cells.specs.{Counts.boxes_of, CheckedCell.known_at, Tables.known_of}
use Rattle.design_masters.specs.Limits.{most_items}
use Rattle.design_masters.proofs.masters.boxes_of_each.Given as goal

abbrev pub invariant-loop-master : goal.invariant-loop-master
invariant-loop-master l =
    (l.boxes.items ≡ map (λ k. boxes_of (known_at (known_of l.cells) k)) (take l.master-index l.masters))
    × All (λ n. n ≤ most_items) l.boxes.items
