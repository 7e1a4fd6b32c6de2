use Rattle.std.proofs.Common.{◌<◌, length, arith}
use Rattle.cif_read.proofs.Narrowing.{order_pushed, count_pushed}
use Rattle.cif_read.proofs.plain.plain_order.Goals as goal

pub loop-i-preserved : goal.loop-i-preserved
loop-i-preserved c =
    let steps = c.args.steps.now in
    let i = c.loop-i.i in
    let step = c.get-step.result in
    let lt : i < length steps = omega (arith, c.loop-i-test.true) in
    let at = c.get-step.ensures step in
    let was = c.loop-i.invariant in
    record {
      order = order_pushed steps i c.loop-i.boxes step c.plain_step.result c.loop-i.order.items c.push.new.self.items
          lt at was.boxes c.plain_step.ensures was.order c.in_ok-push.ensures.items;
      boxes = count_pushed steps i c.loop-i.boxes c.own_count-boxes.result step lt at was.boxes
          c.own_count-boxes.ensures.value;
      few = omega (arith, was.few, c.own_count-boxes.ensures.one);
    }
