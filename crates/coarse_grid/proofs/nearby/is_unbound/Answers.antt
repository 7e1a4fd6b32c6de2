use Rattle.std.proofs.Common.{◌≡◌, ◌∙◌, ◌==◌, ℤ, Bool, true, false, Option, Some, None, refl, sym, ap}
use Rattle.std.{proofs.lemmas.Bool.ne_eqb, specs.Prelude.{is_some, not}}
use Rattle.sym_items.specs.declared.items.Item.{Item}
use Rattle.pair_rules.specs.Bound.{bound_spacing, item_at}
use Rattle.coarse_grid.{specs.Nearby.item_in, proofs.NearGroups.unbound_alike}
use Rattle.coarse_grid.proofs.nearby.is_unbound.Goals as goal

none_told : (o : Option ℤ) (b : Bool) → is_some o ≡ not b → b ≡ true → o ≡ None
none_told None b test t = refl
none_told (Some n) true test t = cc
none_told (Some n) false test t = cc

pub returns-then-item-first : goal.returns-then-item-first
returns-then-item-first c = λ t p within.
    let items = c.args.items.now in
    let parts = c.args.parts.now in
    let item = item_at items c.args.i in
    let first = item_in items parts c.args.group.now.start in
    let first_is : c.item_in-first.result.now ≡ first = c.item_in-first.ensures in
    let none : c.is_bound.result ≡ None = none_told c.is_bound.result c.is_none.result c.is_none.ensures t in
    let unbound : bound_spacing c.args.tech.now item first ≡ None = ap (bound_spacing c.args.tech.now item)
    (sym first_is) ∙ (sym c.is_bound.ensures.value ∙ none) in
    let owners : (item.owner == first.owner) ≡ false = ap (λ (f : Item). item.owner == f.owner) (sym first_is) ∙
    ne_eqb item.owner c.item_in-first.result.now.owner c.if-item-first.true in
    unbound_alike c.args.tech.now item first (item_in items parts p) (c.requires.alike.each p within) owners unbound
