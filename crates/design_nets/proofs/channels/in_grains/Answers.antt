use Rattle.std.proofs.{Common.{◌*ℤ◌, ℤ, pos, ap, ◌∙◌, sym, subst, of_z, to_z, w64, arith}, lemmas.Int.ints}
use Rattle.lam_geom.specs.Places.{IsPlace}
use Rattle.design_nets.proofs.Products.{near_product, near_held, near_fits}
use Rattle.design_nets.proofs.channels.in_grains.Goals as goal
use mir.Val.{SFits}

pub overflow_mul-result-2 : goal.overflow_mul-result-2
overflow_mul-result-2 c =
    let unit = c.numbers.ensures.sound.in_range.unit in
    let near = near_product c.args.place c.numbers.result.unit c.requires.low c.requires.high unit in
    subst (SFits w64) (sym (near_held c.args.place c.numbers.result.unit c.requires.low c.requires.high unit))
    (omega (arith, ints, near.0, near.1))

pub returns-clause-value : goal.returns-clause-value
returns-clause-value c =
    let unit = c.numbers.ensures.sound.in_range.unit in
    ap (λ (z : ℤ). to_z w64 (of_z w64 z))
    (near_held c.args.place c.numbers.result.unit c.requires.low c.requires.high unit)
    ∙ (near_fits c.args.place c.numbers.result.unit c.requires.low c.requires.high unit
    ∙ ap (λ n. c.args.place *ℤ (pos 2 *ℤ n.unit)) c.numbers.ensures.value)

pub returns-clause-placed : goal.returns-clause-placed
returns-clause-placed c =
    let unit = c.numbers.ensures.sound.in_range.unit in
    let near = near_product c.args.place c.numbers.result.unit c.requires.low c.requires.high unit in
    let own =
    ap (λ (z : ℤ). to_z w64 (of_z w64 z))
    (near_held c.args.place c.numbers.result.unit c.requires.low c.requires.high unit)
    ∙ near_fits c.args.place c.numbers.result.unit c.requires.low c.requires.high unit in
    subst IsPlace (sym own) (omega (arith, ints, near.0, near.1), omega (arith, ints, near.0, near.1))
