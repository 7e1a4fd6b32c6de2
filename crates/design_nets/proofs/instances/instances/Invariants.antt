use Rattle.std.{proofs.Common.◌≡◌, specs.{Prelude.flat_map, List.range_with_len}}
use Rattle.plan_model.specs.{Instances.grid_at, Plan.grids_of}
use Rattle.design_nets.specs.Instances.{instances_in_grid}
use Rattle.design_nets.proofs.instances.instances.Given as goal

abbrev pub invariant-loop-grid : goal.invariant-loop-grid
invariant-loop-grid l = l.instances.items ≡ flat_map (λ g. instances_in_grid g (grid_at (grids_of l.plan) g))
    (range_with_len 0 l.grid)
