use Rattle.std.proofs.Common.{ℕ, ◌+◌, List, ◌++◌, length, ap, ◌∙◌, sym, subst, arith}
use Rattle.design_nets.specs.{declared.shapes.Shape.Shape, Firsts.AreFirsts, Shapes.shapes_in}
use Rattle.design_nets.proofs.{Boxes.shapes_read, Lists.{together_longer, together_pushed, firsts_more}}
use Rattle.design_nets.proofs.shapes.shapes_of.Goals as goal

pub overflow_cast-len : goal.overflow_cast-len
overflow_cast-len c =
    let masters = c.args.masters.now in
    let instances = c.args.instances.now in
    let s = c.loop-instance.instance in
    let lt = c.loop-instance-test.true in
    let here = shapes_read masters c.args.drawn.now instances s c.as_slice.result.now c.index-drawn-master.result
    c.requires.drawn c.requires.among lt c.index-drawn-master.is c.as_slice.ensures in
    let all = together_pushed (shapes_in masters instances) s c.loop-instance.all.items c.push_shapes.new.shapes.items
    c.loop-instance.invariant.all (c.in_ok-push_shapes.ensures
    ∙ ap (λ (xs : List Shape). c.loop-instance.all.items ++ xs) here) in
    let longer = together_longer (shapes_in masters instances) (s + 1) (length instances) (omega (arith, lt)) in
    let few = c.requires.few in
    omega (arith, ap length all, longer, few, c.len.ensures)

pub loop-instance-preserved : goal.loop-instance-preserved
loop-instance-preserved c =
    let masters = c.args.masters.now in
    let instances = c.args.instances.now in
    let s = c.loop-instance.instance in
    let lt = c.loop-instance-test.true in
    let here = shapes_read masters c.args.drawn.now instances s c.as_slice.result.now c.index-drawn-master.result
    c.requires.drawn c.requires.among lt c.index-drawn-master.is c.as_slice.ensures in
    let all = together_pushed (shapes_in masters instances) s c.loop-instance.all.items c.push_shapes.new.shapes.items
    c.loop-instance.invariant.all (c.in_ok-push_shapes.ensures
    ∙ ap (λ (xs : List Shape). c.loop-instance.all.items ++ xs) here) in
    record {
      all = all;
      firsts = subst (λ (fs : List ℕ). AreFirsts (shapes_in masters instances) (s + 1) 0 fs)
          (sym {A = List ℕ} c.in_ok-push-2.ensures.items)
          (firsts_more (shapes_in masters instances) s 0 c.len.result c.loop-instance.firsts.items
          c.loop-instance.invariant.firsts (omega (arith, ap length all, c.len.ensures)));
    }
