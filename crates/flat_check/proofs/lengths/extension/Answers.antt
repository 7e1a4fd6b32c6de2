use Rattle.std.proofs.Common.{ap}
use Rattle.rule_table.specs.declared.keys.Numbers.{Numbers}
use Rattle.crossings.proofs.Grains.{grains_held}
use Rattle.flat_check.proofs.lengths.extension.Goals as goal

pub returns-clause-value : goal.returns-clause-value
returns-clause-value c =
    let numbers = c.numbers.ensures in let length = c.in_grains.ensures in
    grains_held c.args.tech.now _ _ c.in_grains.result numbers.sound.in_range.extension_implant
    (ap (λ (n : Numbers). n.extension_implant) numbers.value) length.not_negative length.within length.value
