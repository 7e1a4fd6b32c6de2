use Rattle.std.proofs.Common.{◌<◌, length, sym, ◌∙◌, arith}
use Rattle.cif_foreign.{specs.Counts.has_boxes, proofs.{Walking.valid_step, Filling.{one_kept, one_left_out}}}
use Rattle.cif_foreign.proofs.flattening.filled_steps.Goals.{then-has_boxes+in_ok-push, else-has_boxes}
use Rattle.cif_foreign.proofs.flattening.filled_steps.Goals as goal

pub has_boxes-requires : goal.has_boxes-requires
has_boxes-requires c =
    let step = c.get-step.result in
    let lt : c.loop-i.i < length c.args.steps.now = omega (arith, c.loop-i-test.true) in
    valid_step (length c.args.counts.now) c.args.steps.now c.loop-i.i step c.requires lt (c.get-step.ensures step)

pub loop-i-preserved : goal.loop-i-preserved
loop-i-preserved c =
    let test = has_boxes c.args.counts.now in
    let steps = c.args.steps.now in
    let i = c.loop-i.i in
    let step = c.get-step.result in
    let lt : i < length steps = omega (arith, c.loop-i-test.true) in
    let now = c.loop-i.filled in
    let after = c.if-has_boxes.filled in
    let was = c.loop-i.invariant in
    let is = sym c.has_boxes.ensures in
    let at = c.get-step.ensures step in
    elim c.if-has_boxes.branch [
      | then-has_boxes+in_ok-push w ↦
          one_kept test steps i step now after lt at was (is ∙ w.if-has_boxes.true) (w.filled-is ∙ w.in_ok-push.ensures)
      | else-has_boxes w ↦ one_left_out test steps i step now after lt at was (is ∙ w.if-has_boxes.false) w.filled-is
    ]
