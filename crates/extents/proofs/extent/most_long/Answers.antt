use Rattle.std.proofs.{Common.{◌≡◌, ℕ, ℤ, pos, ◌∙◌, ap, arith, to_z, of_z, w64}, lemmas.Int.{ints, quot_fits}}
use Rattle.std.{proofs.lemmas.Int.to_z-of_z, specs.Prelude.{int_lt, int_div, ◌*ℤ◌}}
use Rattle.rule_table.specs.declared.keys.Numbers.{Numbers}
use Rattle.extents.{specs.Extents.unit_of, proofs.Extents.{past_quotient, quotient_from_zero}}
use Rattle.extents.proofs.extent.most_long.Goals as goal

pub nonzero_div-result : goal.nonzero_div-result
nonzero_div-result c =
    let size = c.numbers.ensures.sound.unit in (
      omega (arith, ints, size.low, size.high),
      quot_fits w64 (pos 1073741824)
          (to_z w64 (of_z w64 c.numbers.result.unit)) (omega (arith, ints)) (omega (arith, ints, size.low, size.high)),
    )

pub returns-clause-value : goal.returns-clause-value
returns-clause-value c = λ length.
    let size = c.numbers.ensures.sound.unit in
    let k : ℕ = of_z w64 c.numbers.result.unit in
    let d : ℤ = to_z w64 k in
    let natural : d ≡ pos k = omega (arith, ints, size.low, size.high) in
    let own : pos k ≡ c.numbers.result.unit = omega (arith, ints, size.low, size.high) in
    let unit : pos k ≡ unit_of c.args.tech.now = own ∙ ap (λ (n : Numbers). n.unit) c.numbers.ensures.value in
    let quotient : to_z w64 (of_z w64 (int_div (pos 1073741824) d)) ≡ int_div (pos 1073741824) (pos k) =
    to_z-of_z w64 _
    (quot_fits w64 (pos 1073741824) d (omega (arith, ints)) (omega (arith, ints, size.low, size.high)))
    ∙ ap (int_div (pos 1073741824)) natural in
    ap (λ q. int_lt q length) quotient
    ∙ (past_quotient 1073741824 k length (omega (arith, ints, size.low, size.high))
    ∙ ap (λ u. int_lt (pos 1073741824) (length *ℤ u)) unit)

pub returns-clause-least : goal.returns-clause-least
returns-clause-least c =
    let size = c.numbers.ensures.sound.unit in
    let d : ℤ = to_z w64 (of_z w64 c.numbers.result.unit) in
    quotient_from_zero 1073741824 (of_z w64 c.numbers.result.unit) d _ (omega (arith, ints, size.low, size.high))
    (omega (arith, ints, size.low, size.high))
    (to_z-of_z w64 _
    (quot_fits w64 (pos 1073741824) d (omega (arith, ints)) (omega (arith, ints, size.low, size.high))))
