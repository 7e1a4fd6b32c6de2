use Rattle.std.proofs.{Common.{◌≡◌, ◌∙◌, ◌<◌, ap, length, get_or, sym, arith}, lemmas.List.get_or_default}
use Rattle.cif_read.specs.{declared.file.CifStep.TheVariants.Own, Files.drawn_in_step}
use Rattle.cif_read.proofs.Flat.{step_counted, flattened_is, flat_all}
use Rattle.cif_read.proofs.flattening.count.Goals as goal

pub returns-then-total-gt-MOST_BOXES-clause-too_many : goal.returns-then-total-gt-MOST_BOXES-clause-too_many
returns-then-total-gt-MOST_BOXES-clause-too_many c =
    let file = c.args.file.now in
    let i = c.loop-step.step-index in
    let same = ap length c.as_slice-step-items.ensures in
    let within : i < length file.order = omega arith in
    let step = get_or c.as_slice-step-items.result.now i (Own 0) in
    let at : step ≡ get_or file.order i step = ap (λ steps. get_or steps i (Own 0)) c.as_slice-step-items.ensures
    ∙ get_or_default file.order i (Own 0) step within in
    omega (
      arith,
      step_counted file c.requires i c.boxes_of_step-total.result c.loop-step.total step within at
          c.boxes_of_step-total.ensures.value c.loop-step.invariant.total,
    )

pub returns-clause-count : goal.returns-clause-count
returns-clause-count c =
    let file = c.args.file.now in
    let same = ap length c.as_slice-step-items.ensures in (
      c.loop-step.invariant.total
          ∙ ap length (flat_all (drawn_in_step file) file.order c.loop-step.step-index (omega arith)
          ∙ sym (flattened_is file c.requires)),
      c.loop-step.invariant.few,
    )
