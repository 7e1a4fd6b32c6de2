use Rattle.std.proofs.Common.{sym, subst, pos, ◌≤ℤ◌, ◌^◌}
use Rattle.cif_read.{specs.Files.IsWithin, proofs.Scales.{product_fits, farther, quotient_is, quotient_fits}}
use Rattle.cif_read.proofs.Scales.{scaled_within, scaled_positive, product_held, factor_held, quotient_held}
use Rattle.cif_read.proofs.Scales.{undivided_is}
use Rattle.cif_read.proofs.numbers.scaled.Goals as goal

pub returns-then-below-eq1-clause-value : goal.returns-then-below-eq1-clause-value
returns-then-below-eq1-clause-value c =
    let a = c.args in
    undivided_is a.n a.above a.below c.ranges.n c.ranges.above
    (product_fits a.n a.above (farther a.n c.requires.near) c.requires.above) c.requires.below c.if-below-eq1.true

pub returns-then-below-eq1-clause-near : goal.returns-then-below-eq1-clause-near
returns-then-below-eq1-clause-near c =
    let a = c.args in
    subst (IsWithin (2 ^ 46)) (sym (returns-then-below-eq1-clause-value c))
    (scaled_within a.n a.above a.below c.requires.near c.requires.above)

pub returns-then-below-eq1-clause-positive : goal.returns-then-below-eq1-clause-positive
returns-then-below-eq1-clause-positive c =
    let a = c.args in
    λ even some. subst (λ z. pos 1 ≤ℤ z) (sym (returns-then-below-eq1-clause-value c))
    (scaled_positive a.n a.above a.below c.requires.above c.requires.below even some)

pub returns-else-below-eq1-clause-value : goal.returns-else-below-eq1-clause-value
returns-else-below-eq1-clause-value c =
    let a = c.args in
    quotient_is a.n a.above a.below c.ranges.n c.ranges.above c.ranges.below
    (product_fits a.n a.above (farther a.n c.requires.near) c.requires.above)
    (quotient_fits a.n a.above a.below (farther a.n c.requires.near) c.requires.above)

pub returns-else-below-eq1-clause-near : goal.returns-else-below-eq1-clause-near
returns-else-below-eq1-clause-near c =
    let a = c.args in
    subst (IsWithin (2 ^ 46)) (sym (returns-else-below-eq1-clause-value c))
    (scaled_within a.n a.above a.below c.requires.near c.requires.above)

pub returns-else-below-eq1-clause-positive : goal.returns-else-below-eq1-clause-positive
returns-else-below-eq1-clause-positive c =
    let a = c.args in
    λ even some. subst (λ z. pos 1 ≤ℤ z) (sym (returns-else-below-eq1-clause-value c))
    (scaled_positive a.n a.above a.below c.requires.above c.requires.below even some)

pub overflow_mul-product : goal.overflow_mul-product
overflow_mul-product c =
    let a = c.args in
    product_held a.n a.above c.ranges.n c.ranges.above
    (product_fits a.n a.above (farther a.n c.requires.near) c.requires.above)

pub nonzero_div-result : goal.nonzero_div-result
nonzero_div-result c =
    let a = c.args in (
      factor_held a.below c.requires.below,
      quotient_held a.n a.above a.below c.ranges.n c.ranges.above c.ranges.below
          (product_fits a.n a.above (farther a.n c.requires.near) c.requires.above)
          (quotient_fits a.n a.above a.below (farther a.n c.requires.near) c.requires.above),
    )
