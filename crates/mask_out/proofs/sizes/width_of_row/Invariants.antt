use Rattle.std.proofs.Common.{◌≡◌, map, take}
use Rattle.lam_geom.specs.declared.boxes.Axis.TheVariants.{X}
use Rattle.sym_items.specs.Layouts.{size_in}
use Rattle.plan_model.specs.Instances.{total}
use Rattle.mask_out.proofs.sizes.width_of_row.Given as goal

abbrev pub invariant-loop-master : goal.invariant-loop-master
invariant-loop-master l = l.width ≡ total (map (size_in X l.coords) (take l.master-index l.row))
