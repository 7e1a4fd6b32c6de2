use Rattle.std.{proofs.Common.{◌≡◌, pos, ◌≤ℤ◌, map, take}, specs.Int.int_min}
use Rattle.lam_geom.specs.declared.boxes.Axis.TheVariants.{X}
use Rattle.sym_items.specs.Layouts.{size_in}
use Rattle.plan_model.specs.Instances.{total}
use Rattle.extents.proofs.extent.row_width.Given as goal

abbrev pub invariant-loop-m : goal.invariant-loop-m
invariant-loop-m l = (l.sum ≡ int_min (total (map (size_in X l.layouts) (take l.m-index l.row))) l.most)
    × (pos 0 ≤ℤ l.sum)
