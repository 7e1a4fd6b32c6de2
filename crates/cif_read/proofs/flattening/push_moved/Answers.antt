use Rattle.std.proofs.{Common.{◌^◌, ◌∙◌, refl, w64, arith}, lemmas.{List.take_all, Int.to_z-of_z}}
use Rattle.cif_read.proofs.{Flat.moved_more, Solid.{solid_pushed, solid_at}}
use Rattle.cif_read.proofs.flattening.push_moved.Goals as goal

pub moved-requires-clause-solid : goal.moved-requires-clause-solid
moved-requires-clause-solid c =
    solid_at (2 ^ 50) c.args.boxes.now c.loop-mask.mask-index c.mask-item.result (omega arith) c.mask-item.is
    c.requires.solid

pub loop-mask-preserved : goal.loop-mask-preserved
loop-mask-preserved c =
    let boxes = c.args.boxes.now in
    let i = c.loop-mask.mask-index in
    let items = c.in_ok-push.ensures.items in
    let was = c.loop-mask.invariant in
    record {
      boxes = moved_more c.args.out.now.items c.loop-mask.out.items c.push.new.self.items boxes _ _ i
          c.mask-item.result c.moved.result (omega arith) c.mask-item.is items c.moved.ensures.value was.boxes;
      solid = λ h. solid_pushed (2 ^ 51) c.loop-mask.out.items c.push.new.self.items c.moved.result items
          c.moved.ensures.solid (was.solid h);
    }

pub returns-clause-boxes : goal.returns-clause-boxes
returns-clause-boxes c =
    let x = to_z-of_z w64 c.args.x c.ranges.x in
    let y = to_z-of_z w64 c.args.y c.ranges.y in
    let whole = take_all c.loop-mask.mask-index c.args.boxes.now (omega arith) in
    let was = c.loop-mask.invariant.boxes in
    was ∙ rw (whole, x, y) refl
