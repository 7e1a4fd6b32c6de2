use Rattle.std.proofs.{Common.{◌≡◌, false, true, refl, arith}, lemmas.Int.ints}
use Rattle.crossings.proofs.pair_tests.goes_past.Goals as goal

pub returns-then-is_at_most : goal.returns-then-is_at_most
returns-then-is_at_most c =
    let low = c.if-is_at_most.ensures.0 refl in
    let high = c.is_at_most-then-is_at_most.ensures in (
      λ t. let h = high.0 t in (omega (arith, ints, low), omega (arith, ints, h)),
      λ h.
          high.1 (omega (arith, ints, h.1)),
    )

pub returns-else-is_at_most : goal.returns-else-is_at_most
returns-else-is_at_most c =
    (λ t. absurd cc, λ h. let not_low : false ≡ true = c.if-is_at_most.ensures.1 (omega (arith, ints, h.0)) in cc)
