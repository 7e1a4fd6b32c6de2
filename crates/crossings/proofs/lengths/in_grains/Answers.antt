use Rattle.std.proofs.Common.{◌*ℤ◌, pos, ap, ◌∙◌}
use Rattle.crossings.proofs.Grains.{small_product, product_held}
use Rattle.crossings.proofs.lengths.in_grains.Goals as goal

pub returns-clause-value : goal.returns-clause-value
returns-clause-value c =
    product_held c.args.length c.numbers.result.unit c.requires c.numbers.ensures.sound.in_range.unit
    ∙ ap (λ n. c.args.length *ℤ (pos 2 *ℤ n.unit)) c.numbers.ensures.value

pub returns-clause-not_negative : goal.returns-clause-not_negative
returns-clause-not_negative c =
    let unit = c.numbers.ensures.sound.in_range.unit in
    rw (product_held c.args.length c.numbers.result.unit c.requires unit)
    (small_product c.args.length c.numbers.result.unit c.requires unit).0

pub returns-clause-within : goal.returns-clause-within
returns-clause-within c =
    let unit = c.numbers.ensures.sound.in_range.unit in
    rw (product_held c.args.length c.numbers.result.unit c.requires unit)
    (small_product c.args.length c.numbers.result.unit c.requires unit).1
