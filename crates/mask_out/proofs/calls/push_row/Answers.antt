use Rattle.std.proofs.{Common.{arith, refl}, lemmas.Int.ints}
use Rattle.lam_geom.specs.declared.boxes.Axis.TheVariants.{X}
use Rattle.sym_items.specs.Layouts.{size_in}
use Rattle.mask_out.proofs.{Totals.past_instance, Pushed.call_pushed}
use Rattle.mask_out.proofs.calls.push_row.Goals as goal

pub overflow_add-x : goal.overflow_add-x
overflow_add-x c =
    let step = past_instance (size_in X c.args.coords.now) c.args.row.now c.loop-master.master-index
    c.size_of-x.result c.requires.row c.loop-master-test.true c.size_of-x.ensures in
    let left = c.requires.left in
    omega (arith, ints, left.0, left.1)

pub loop-master-preserved : goal.loop-master-preserved
loop-master-preserved c =
    let step = past_instance (size_in X c.args.coords.now) c.args.row.now c.loop-master.master-index
    c.size_of-x.result c.requires.row c.loop-master-test.true c.size_of-x.ensures in
    let left = c.requires.left in
    record {
      called =
          call_pushed (size_in X c.args.coords.now) _ _ c.args.row.now c.loop-master.master-index _ _
          c.args.calls.now.items c.loop-master.calls.items _ c.loop-master.invariant.called refl
          c.loop-master.invariant.place c.in_ok-push.ensures.items;
      place = omega (arith, ints, left.0, left.1);
    }
