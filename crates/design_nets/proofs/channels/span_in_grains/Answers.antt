use Rattle.std.proofs.{Common.{◌+ℤ◌, ◌≤ℤ◌, ℤ, of_z, to_z, w64, sym, subst, arith}, lemmas.Int.ints}
use Rattle.crossing_model.specs.Boxes.{grains}
use Rattle.design_nets.proofs.Products.{shifted_held, grains_ordered}
use Rattle.design_nets.proofs.channels.span_in_grains.Goals as goal

pub returns-clause-low : goal.returns-clause-low
returns-clause-low c =
    let low = c.requires.low in
    let high = c.requires.high in
    let ordered = c.args.span.ordered in
    shifted_held c.args.tech.now c.args.by c.args.span.lo c.in_grains-lo.result c.requires.by low
    (omega (arith, ints, high, ordered)) c.in_grains-lo.ensures.value c.in_grains-lo.ensures.placed

pub returns-clause-high : goal.returns-clause-high
returns-clause-high c =
    let low = c.requires.low in
    let high = c.requires.high in
    let ordered = c.args.span.ordered in
    shifted_held c.args.tech.now c.args.by c.args.span.hi c.in_grains-hi.result c.requires.by
    (omega (arith, ints, low, ordered)) high c.in_grains-hi.ensures.value c.in_grains-hi.ensures.placed

pub invariant_of-result : goal.invariant_of-result
invariant_of-result c =
    let tech = c.args.tech.now in
    let low = c.requires.low in
    let high = c.requires.high in
    let ordered = c.args.span.ordered in
    let first = shifted_held tech c.args.by c.args.span.lo c.in_grains-lo.result c.requires.by low
    (omega (arith, ints, high, ordered)) c.in_grains-lo.ensures.value c.in_grains-lo.ensures.placed in
    let second = shifted_held tech c.args.by c.args.span.hi c.in_grains-hi.result c.requires.by
    (omega (arith, ints, low, ordered)) high c.in_grains-hi.ensures.value c.in_grains-hi.ensures.placed in
    let h = grains_ordered tech c.args.by c.args.span.lo c.args.span.hi ordered in
    record {
      ordered = subst (λ (z : ℤ). z ≤ℤ to_z w64 (of_z w64 c.in_grains-hi.result)) (sym first)
          (subst (λ (z : ℤ). grains tech (c.args.by +ℤ c.args.span.lo) ≤ℤ z) (sym second) h);
    }
