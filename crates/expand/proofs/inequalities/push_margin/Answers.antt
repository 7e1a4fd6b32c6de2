use Rattle.std.proofs.{Common.{◌≡◌, to_z, of_z, w64, sym, ◌∙◌, subst, arith}, lemmas.Int.ints}
use Rattle.sym_items.specs.declared.items.End.{End}
use Rattle.expand.{specs.Bounds.IsNear, proofs.Edges.margin_pushed}
use Rattle.expand.proofs.inequalities.push_margin.Goals as goal

pub push_between-requires-clause-high : goal.push_between-requires-clause-high
push_between-requires-clause-high c = let P : End → Type 0 =
    λ e. IsNear e.off in subst P (sym c.low.ensures) c.requires.low

pub push_between-requires-2-clause-low : goal.push_between-requires-2-clause-low
push_between-requires-2-clause-low c = let P : End → Type 0 =
    λ e. IsNear e.off in subst P (sym c.high.ensures) c.requires.high

pub returns : goal.returns
returns c =
    let bounds = c.margin-margin.ensures.bounds in
    let same : to_z w64 (of_z w64 c.margin-margin.result) ≡ c.margin-margin.result = omega (arith, ints, bounds) in
    margin_pushed c.args.axis c.args.tech.now c.args.item.now c.low.result c.high.result
    (to_z w64 (of_z w64 c.margin-margin.result)) c.args.edges.now.items _ _ c.low.ensures c.high.ensures
    (same ∙ c.margin-margin.ensures.value) c.in_ok-push_between.ensures c.in_ok-push_between-2.ensures
