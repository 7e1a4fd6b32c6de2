use Rattle.std.proofs.{Common.arith, lemmas.Int.ints}
use Rattle.lam_geom.specs.declared.boxes.Axis.TheVariants.{X}
use Rattle.sym_items.specs.Layouts.{size_in}
use Rattle.mask_out.proofs.Totals.{past_instance}
use Rattle.mask_out.proofs.sizes.width_of_row.Goals as goal

pub overflow_add-width : goal.overflow_add-width
overflow_add-width c =
    let step = past_instance (size_in X c.args.coords.now) c.args.row.now c.loop-master.master-index
    c.size_of-width.result c.requires c.loop-master-test.true c.size_of-width.ensures in
    omega (arith, ints)

pub loop-master-preserved : goal.loop-master-preserved
loop-master-preserved c =
    let step = past_instance (size_in X c.args.coords.now) c.args.row.now c.loop-master.master-index
    c.size_of-width.result c.requires c.loop-master-test.true c.size_of-width.ensures in
    omega (arith, ints)
