use Rattle.std.proofs.Common.{ℕ, not, eqb, ap, ◌∙◌}
use Rattle.cif_read.proofs.Scales.{product_fits, product_held, factor_held, quotient_fits, quotient_held, odd_test}
use Rattle.cif_read.proofs.Scales.{even_undivided}
use Rattle.cif_read.proofs.numbers.is_odd.Goals as goal

pub returns-then-below-ne1 : goal.returns-then-below-ne1
returns-then-below-ne1 c =
    let a = c.args in
    odd_test a.n a.above a.below c.ranges.n c.ranges.above c.ranges.below
    (product_fits a.n a.above c.requires.near c.requires.above)

pub returns-else-below-ne1 : goal.returns-else-below-ne1
returns-else-below-ne1 c =
    let a = c.args in
    let one = c.if-below-ne1.false in
    ap (λ (k : ℕ). not (eqb k 1)) one ∙ even_undivided a.n a.above a.below c.requires.below one

pub overflow_mul-result : goal.overflow_mul-result
overflow_mul-result c =
    let a = c.args in
    product_held a.n a.above c.ranges.n c.ranges.above (product_fits a.n a.above c.requires.near c.requires.above)

pub nonzero_rem-result : goal.nonzero_rem-result
nonzero_rem-result c =
    let a = c.args in (
      factor_held a.below c.requires.below,
      quotient_held a.n a.above a.below c.ranges.n c.ranges.above c.ranges.below
          (product_fits a.n a.above c.requires.near c.requires.above)
          (quotient_fits a.n a.above a.below c.requires.near c.requires.above),
    )
