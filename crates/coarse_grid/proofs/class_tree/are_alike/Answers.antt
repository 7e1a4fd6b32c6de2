use Rattle.std.proofs.Common.{◌≡◌, ℕ, subst, arith}
use Rattle.sym_items.specs.declared.items.Item.{Item}
use Rattle.coarse_grid.{specs.Nearby.{AreAlike, item_in}, proofs.Nears.by_lt}
use Rattle.coarse_grid.proofs.class_tree.are_alike.Goals as goal

pub loop-place-preserved : goal.loop-place-preserved
loop-place-preserved c = λ p low high.
    let items = c.args.items.now in
    let parts = c.args.parts.now in
    let first = item_in items parts c.args.group.now.start in
    by_lt p c.loop-place.place (λ before. c.loop-place.invariant p low before)
    (λ at. let same : c.loop-place.place ≡ p = omega arith in
    let here = subst (AreAlike c.item_in.result.now) c.item_in-first.ensures
    (c.is_alike.ensures.0 c.if-not-is_alike.false) in
    subst (λ (n : ℕ). AreAlike (item_in items parts n) first) same
    (subst (λ (a : Item). AreAlike a first) c.item_in.ensures here))
