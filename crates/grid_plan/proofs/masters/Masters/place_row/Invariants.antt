use Rattle.std.proofs.Common.{◌≡◌, map, take}
use Rattle.grid_plan.specs.Numbered.{master_of}
use Rattle.grid_plan.proofs.masters.Masters.place_row.Given as goal

abbrev pub invariant-loop-cell : goal.invariant-loop-cell
invariant-loop-cell l = l.placed.items ≡ map (master_of l.self.cells.items) (take l.cell-index l.row)
