use Rattle.std.{proofs.Common.◌≡◌, specs.{Prelude.flat_map, List.range_with_len}}
use Rattle.lam_geom.specs.declared.boxes.Axis.TheVariants.{X, Y}
use Rattle.rule_table.specs.Technology.{widest_of}
use Rattle.sym_items.specs.Layouts.{size_in}
use Rattle.plan_model.specs.{Instances.left_of_grid, Plan.grids_of}
use Rattle.mask_out.proofs.CallsInOrder.{calls_of_grid}
use Rattle.mask_out.proofs.calls.calls_in.Given as goal

abbrev pub invariant-loop-grid : goal.invariant-loop-grid
invariant-loop-grid l = record {
  called : l.calls.items
      ≡ flat_map (calls_of_grid (size_in X l.coords) (size_in Y l.coords) (widest_of l.tech) (grids_of l.plan))
      (range_with_len 0 l.grid-index);
  place : l.left ≡ left_of_grid (size_in X l.coords) (widest_of l.tech) (grids_of l.plan) l.grid-index;
}
