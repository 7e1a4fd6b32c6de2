use Rattle.std.{proofs.{Common.{◌∙◌, ap, sym, arith, rules, pos, ◌+ℤ◌, ◌≤ℤ◌}, lemmas.Int.ints}, specs.Int.int_max}
use Rattle.rule_table.specs.{declared.keys.Numbers.Numbers, Technology.pad_of}
use Rattle.cell_model.specs.Wiring.{buried_pad}
use Rattle.expand.specs.Variables.{half}
use Rattle.coarse_grid.{specs.Extent.reach_of, proofs.Extents.{halves, past}}
use Rattle.coarse_grid.proofs.extent.reach.Goals as goal

pub returns-in-Contact : goal.returns-in-Contact
returns-in-Contact c =
    let cut = c.numbers.ensures.sound.in_range.cut_size in
    let pad = c.pad.ensures.bounds in
    let low : pos 0 ≤ℤ c.pad.result = omega (arith, ints, pad.0) in
    let high : c.numbers.result.cut_size ≤ℤ pos 12288 = omega (arith, ints, cut.1) in
    let h = halves _ _ _ _ _ low pad.1 cut.0 high c.half-in-Contact.ensures.value c.half-in-Contact-2.ensures.value
    c.max.ensures.value in
    record {
      value = h.0
          ∙ (ap (λ z. int_max (half z) (half c.numbers.result.cut_size)) c.pad.ensures.value
          ∙ (ap (λ (n : Numbers). int_max (half (pad_of c.args.tech.now)) (half n.cut_size)) c.numbers.ensures.value
          ∙ ap (reach_of c.args.tech.now) (sym c.in-Contact.is)));
      not_negative = search rules;
      near = rw h.0 h.1;
    }

pub returns-in-Buried-clause-value : goal.returns-in-Buried-clause-value
returns-in-Buried-clause-value c =
    past _ _ _ c.buried_pad.ensures.size c.numbers-in-Buried.ensures.sound.in_range.extension_buried
    c.half-in-Buried.ensures.value
    ∙ (ap (λ z. half z +ℤ c.numbers-in-Buried.result.extension_buried) c.buried_pad.ensures.value
    ∙ (ap (λ (n : Numbers). half (buried_pad c.args.tech.now) +ℤ n.extension_buried) c.numbers-in-Buried.ensures.value
    ∙ ap (reach_of c.args.tech.now) (sym c.in-Buried.is)))
