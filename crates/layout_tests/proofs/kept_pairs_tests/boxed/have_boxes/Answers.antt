use Rattle.std.proofs.{Common.{List, All, subst, take_all, arith}, lemmas.List.Elements.All-more}
use Rattle.sym_items.specs.{declared.items.Item.Item, Boxes.HasBox}
use Rattle.layout_tests.proofs.kept_pairs_tests.boxed.have_boxes.Goals as goal

pub loop-item-preserved : goal.loop-item-preserved
loop-item-preserved c =
    let boxed = c.has_box.ensures c.if-not-has_box.false in
    All-more (HasBox c.args.coords.now) c.args.items.now c.loop-item.item-index _ c.loop-item-test.true
    c.loop-item.invariant boxed

pub returns-clause-boxes : goal.returns-clause-boxes
returns-clause-boxes c = λ _.
    let L : List Item → Type 0 = All (HasBox c.args.coords.now) in
    let test = c.loop-item-test.false in
    subst L (take_all c.loop-item.item-index c.args.items.now (omega arith)) c.loop-item.invariant
