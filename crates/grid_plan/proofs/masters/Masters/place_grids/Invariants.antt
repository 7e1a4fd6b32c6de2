use Rattle.std.proofs.Common.{◌≡◌, map, take}
use Rattle.grid_plan.specs.Numbered.{master_of}
use Rattle.grid_plan.proofs.masters.Masters.place_grids.Given as goal

abbrev pub invariant-loop-rows : goal.invariant-loop-rows
invariant-loop-rows l = l.placed.items ≡ map (map (map (master_of l.self.cells.items))) (take l.rows-index l.grids)
