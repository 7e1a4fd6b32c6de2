use Rattle.std.proofs.{Common.{◌≡◌, false, true, refl, sym, ap, ◌∙◌, arith}, lemmas.Int.ints}
use Rattle.lam_geom.specs.Gaps.{span_along}
use Rattle.crossings.proofs.{Grains.grains_held, SpansPast.{past_alike, placed_along}}
use Rattle.crossings.proofs.pair_tests.cross_along.Goals as goal

pub goes_past-requires-clause-outer : goal.goes_past-requires-clause-outer
goes_past-requires-clause-outer c = placed_along _ _ _ c.span_of.ensures c.requires.poly

pub goes_past-requires-clause-inner : goal.goes_past-requires-clause-inner
goes_past-requires-clause-inner c = placed_along _ _ _ c.span_of-2.ensures c.requires.diffusion

pub goes_past-requires-clause-within : goal.goes_past-requires-clause-within
goes_past-requires-clause-within c = omega (arith, ints)

pub goes_past-requires-then-goes_past-clause-outer : goal.goes_past-requires-then-goes_past-clause-outer
goes_past-requires-then-goes_past-clause-outer c =
    placed_along _ _ _ c.span_of-then-goes_past.ensures c.requires.diffusion

pub goes_past-requires-then-goes_past-clause-inner : goal.goes_past-requires-then-goes_past-clause-inner
goes_past-requires-then-goes_past-clause-inner c = placed_along _ _ _ c.span_of-then-goes_past-2.ensures c.requires.poly

pub goes_past-requires-then-goes_past-clause-within : goal.goes_past-requires-then-goes_past-clause-within
goes_past-requires-then-goes_past-clause-within c = omega (arith, ints)

pub returns-then-goes_past : goal.returns-then-goes_past
returns-then-goes_past c =
    let tech = c.args.tech.now in
    let numbers = c.numbers-numbers in
    let range = numbers.ensures.sound.in_range in
    let gate = c.in_grains-gate in
    let channel = c.in_grains-channel in
    let by_poly = grains_held tech _ _ gate.result range.extension_poly
    (ap (λ n. n.extension_poly) numbers.ensures.value) gate.ensures.not_negative gate.ensures.within
    gate.ensures.value in
    let by_diffusion = grains_held tech _ _ channel.result range.extension_diffusion
    (ap (λ n. n.extension_diffusion) numbers.ensures.value) channel.ensures.not_negative channel.ensures.within
    channel.ensures.value in
    let outer = c.span_of-then-goes_past.ensures ∙ ap (span_along c.args.diffusion.now) c.across-across.ensures in
    let inner = c.span_of-then-goes_past-2.ensures ∙ ap (span_along c.args.poly.now) c.across-across.ensures in (
      λ t. record {
        gate = past_alike _ _ _ _ _ _ c.span_of.ensures c.span_of-2.ensures by_poly (c.if-goes_past.ensures.0 refl);
        channel = past_alike _ _ _ _ _ _ outer inner by_diffusion (c.goes_past-then-goes_past.ensures.0 t);
      },
      λ h. c.goes_past-then-goes_past.ensures.1
          (past_alike _ _ _ _ _ _ (sym outer) (sym inner) (sym by_diffusion) h.channel),
    )

pub returns-else-goes_past : goal.returns-else-goes_past
returns-else-goes_past c =
    let tech = c.args.tech.now in
    let numbers = c.numbers-numbers in
    let gate = c.in_grains-gate in
    let by_poly = grains_held tech _ _ gate.result numbers.ensures.sound.in_range.extension_poly
    (ap (λ n. n.extension_poly) numbers.ensures.value) gate.ensures.not_negative gate.ensures.within
    gate.ensures.value in (
      λ t. absurd cc,
      λ h. let not_past : false ≡ true =
          c.if-goes_past.ensures.1
          (past_alike _ _ _ _ _ _ (sym c.span_of.ensures) (sym c.span_of-2.ensures) (sym by_poly) h.gate) in cc,
    )
