use Rattle.std.proofs.Common.{◌≡◌, take}
use Rattle.design_commands.specs.Nets.{names_of_grids}
use Rattle.design_commands.proofs.nets.names_of_grids.Given as goal

abbrev pub invariant-loop-grid : goal.invariant-loop-grid
invariant-loop-grid l = l.names.items ≡ names_of_grids (take l.grid-index l.design.grids)
