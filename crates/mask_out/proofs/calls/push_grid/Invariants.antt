use Rattle.std.{proofs.Common.{◌≡◌, ◌++◌, map}, specs.{Prelude.flat_map, List.range_with_len}}
use Rattle.lam_geom.specs.declared.boxes.Axis.TheVariants.{X, Y}
use Rattle.sym_items.specs.Layouts.{size_in}
use Rattle.plan_model.specs.{Instances.bottom_in_grid, declared.plan.PlanRow.PlanRow}
use Rattle.mask_out.specs.RowCalls.{calls_in_row_at}
use Rattle.mask_out.proofs.calls.push_grid.Given as goal

abbrev pub invariant-loop-row : goal.invariant-loop-row
invariant-loop-row l = record {
  called : l.calls.items ≡ l.initial.calls.items ++ flat_map
      (calls_in_row_at (size_in X l.coords) (size_in Y l.coords) l.left (map (λ (row : PlanRow). row.cells) l.rows))
      (range_with_len 0 l.row-index);
  place : l.bottom ≡ bottom_in_grid (size_in Y l.coords) (map (λ (row : PlanRow). row.cells) l.rows) l.row-index;
}
