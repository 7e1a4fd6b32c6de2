use Rattle.std.proofs.Common.{◌≡◌, sym, subst, ◌∙◌, arith, length}
use Rattle.cif_read.{specs.Steps.AreBoxes, proofs.Stepping.boxes_alone}
use Rattle.cif_read.proofs.steps.Steps.into_boxes.Goals as goal

pub returns-then-are_boxes-clause-boxes : goal.returns-then-are_boxes-clause-boxes
returns-then-are_boxes-clause-boxes c =
    let places = c.self.inside.places.items in
    let boxes = c.self.inside.boxes.items in
    let len : length places ≡ length boxes = omega (arith, c.if-len.true, c.len.ensures, c.len-2.ensures) in
    sym c.self.view_is ∙ boxes_alone boxes places len (subst AreBoxes c.deref.ensures.value (c.are_boxes.ensures c.if-are_boxes.true))
