use Rattle.std.proofs.Common.{◌<◌, length, ap, sym, ◌∙◌, arith}
use Rattle.cif_read.proofs.Flat.{flat_all}
use Rattle.cif_foreign.{specs.Counts.counted, proofs.Flat.{drawn_by, steps_counted, steps_flat}}
use Rattle.cif_foreign.proofs.flattening.count_steps.Goals as goal

pub loop-i-preserved : goal.loop-i-preserved
loop-i-preserved c =
    let steps = c.args.steps.now in
    let i = c.loop-i.i in
    let step = c.get.result in
    let lt : i < length steps = omega (arith, c.loop-i-test.true) in
    record {
      total = λ boxes are.
          c.min-total.ensures
          ∙ steps_counted boxes steps i c.loop-i.total c.count_step.result step lt (c.get.ensures step)
          (c.loop-i.invariant.total boxes are)
          (c.count_step.ensures.value boxes are);
      few = omega (arith, c.min-total.ensures);
    }

pub returns-clause-value : goal.returns-clause-value
returns-clause-value c = λ boxes are.
    c.loop-i.invariant.total boxes are
    ∙ ap counted (flat_all (drawn_by boxes) c.args.steps.now c.loop-i.i (omega (arith, c.loop-i-test.false))
    ∙ sym (steps_flat boxes c.args.steps.now))
