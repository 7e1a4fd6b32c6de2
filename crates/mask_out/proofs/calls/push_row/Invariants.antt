use Rattle.std.{proofs.Common.{◌≡◌, ◌++◌, map, ◌+ℤ◌}, specs.List.range_with_len}
use Rattle.lam_geom.specs.declared.boxes.Axis.TheVariants.{X}
use Rattle.sym_items.specs.Layouts.{size_in}
use Rattle.plan_model.specs.Instances.{left_in_row}
use Rattle.mask_out.specs.RowCalls.{call_in_row}
use Rattle.mask_out.proofs.calls.push_row.Given as goal

abbrev pub invariant-loop-master : goal.invariant-loop-master
invariant-loop-master l = record {
  called : l.calls.items ≡ l.initial.calls.items ++ map (call_in_row (size_in X l.coords) l.left l.bottom l.row)
      (range_with_len 0 l.master-index);
  place : l.x ≡ l.left +ℤ left_in_row (size_in X l.coords) l.row l.master-index;
}
