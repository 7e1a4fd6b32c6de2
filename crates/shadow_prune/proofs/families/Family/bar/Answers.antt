-- The bar is that of the item, field by field.
use Rattle.std.proofs.{Common.{◌≡◌, ap, arith}, lemmas.Int.ints}
use Rattle.sym_items.specs.{declared.items.End.End, Sides.Sides}
use Rattle.pair_rules.specs.{Bound.item_at, Candidates.sides_at}
use Rattle.shadow_prune.specs.Families.{is_main_role}
use Rattle.shadow_prune.proofs.Bars.{same_bar}
use Rattle.shadow_prune.proofs.families.Family.bar.Goals as goal

pub returns-clause-bar : goal.returns-clause-bar
returns-clause-bar c =
    let sides = sides_at c.args.axis c.args.coords.now (item_at c.args.items.now c.args.k) in
    let bottom : c.box_along.result.y.lo ≡ sides.bottom = ap (λ (s : Sides). s.bottom) c.box_along.ensures.sides in
    let top : c.box_along.result.y.hi ≡ sides.top = ap (λ (s : Sides). s.top) c.box_along.ensures.sides in
    same_bar c.args.axis c.args.tech.now c.args.coords.now c.args.items.now c.args.self c.args.k c.args.is_main
    (ap is_main_role c.requires.role) _ _ _ _ _ _ _ (omega (arith, ints)) (omega (arith, ints)) c.key.ensures
    c.contacts.ensures (ap (λ (e : End). e.var) c.low.ensures) (ap (λ (e : End). e.var) c.high.ensures)
    c.is_solid.ensures
