use Rattle.std.{proofs.Common.{◌≡◌, take}, specs.Prelude.sum_by}
use Rattle.checked_cells.specs.{Counts.{weight_of, capped}, CheckedCell.known_at, Tables.known_of}
use Rattle.design_masters.proofs.masters.weight_of_all.Given as goal

abbrev pub invariant-loop-master : goal.invariant-loop-master
invariant-loop-master l =
    l.weight ≡ capped (sum_by (λ k. weight_of (known_at (known_of l.cells) k)) (take l.master-index l.masters))
