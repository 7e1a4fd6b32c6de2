use Rattle.std.proofs.Common.{◌≡◌, map, take}
use Rattle.grid_plan.specs.Numbered.{master_of}
use Rattle.grid_plan.proofs.masters.Masters.place_rows.Given as goal

abbrev pub invariant-loop-row : goal.invariant-loop-row
invariant-loop-row l = l.placed.items ≡ map (map (master_of l.self.cells.items)) (take l.row-index l.rows)
