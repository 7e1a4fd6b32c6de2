use Rattle.std.proofs.{Common.{◌≡◌, ◌-◌, ◌∙◌, ap, subst, arith}, lemmas.List.get_or_default}
use Rattle.std.specs.Prelude.{slice_index}
use Rattle.sym_items.specs.{declared.items.Coords.Coords, Layouts.{layout_at, no_layout}}
use Rattle.expand.specs.declared.master.Master.{Master}
use Rattle.pitch_join.specs.{Joined.{base_of, own_variables}, Masters.{master_at, no_master}}
use Rattle.pitch_join.proofs.Bases.{base_at, base_within, bases_counted, planned_joined}
use Rattle.pass_run.specs.{Found.IsFound, OneMaster.own_kept_edges}
use Rattle.pass_run.proofs.{Adding.own_laid, Values.system_length, ready.make_one.Goals.After-index-layouts-m}
use Rattle.pass_run.proofs.ready.make_one.Goals as goal

pub order_along-requires : goal.order_along-requires
order_along-requires c =
    let count = system_length c.args.axis c.args.tech.now c.args.masters.now c.args.layouts.now c.requires.laid in
    let few = (planned_joined c.args.tech.now c.args.plan.now c.args.masters.now c.requires.planned).few c.args.axis in
    record { few = omega arith }

-- what the code reads is a master and its layout
master_is : (c : After-index-layouts-m) → c.index-masters-m.result ≡ master_at c.args.masters.now (c.args.number - 2)
master_is c = c.index-masters-m.is ∙ get_or_default c.args.masters.now (c.args.number - 2) _ no_master (omega arith)

layout_is : (c : After-index-layouts-m) → c.index-layouts-m.result ≡ layout_at c.args.layouts.now (c.args.number - 2)
layout_is c =
    let count = c.requires.laid.counted in
    c.index-layouts-m.is ∙ get_or_default c.args.layouts.now (c.args.number - 2) _ no_layout (omega arith)

pub bounds-bases-m : goal.bounds-bases-m
bounds-bases-m c =
    let count = bases_counted c.args.axis c.args.masters.now c.args.bases.now c.requires.bases in
    omega arith

-- and so is its first joint variable
base_is : (c : After-index-layouts-m)
    → slice_index c.args.bases.now (c.args.number - 2) ≡ base_of c.args.axis c.args.masters.now (c.args.number - 2)
base_is c =
    base_at c.args.axis c.args.masters.now c.args.bases.now (c.args.number - 2) c.requires.bases (omega arith)

pub find_kept-requires-clause-laid : goal.find_kept-requires-clause-laid
find_kept-requires-clause-laid c =
    let at = (goal.at.find_kept-requires-clause-laid c).After-index-layouts-m in
    own_laid c.args.tech.now c.args.masters.now c.args.layouts.now (c.args.number - 2) _ _ c.requires.laid (omega arith)
    (master_is at) (layout_is at)

pub find_kept-requires-clause-few : goal.find_kept-requires-clause-few
find_kept-requires-clause-few c =
    let at = (goal.at.find_kept-requires-clause-few c).After-index-layouts-m in
    let m = c.args.number - 2 in
    let masters = c.args.masters.now in
    let few = (planned_joined c.args.tech.now c.args.plan.now masters c.requires.planned).few c.args.axis in
    let within = base_within c.args.axis masters m (omega arith) in
    let own = ap (own_variables c.args.axis) (master_is at) in
    let base = base_is at in
    omega (arith, few, within, own, base)

pub returns-in_ok-found-in_default : goal.returns-in_ok-found-in_default
returns-in_ok-found-in_default c =
    let at = (goal.at.returns-in_ok-found-in_default c).After-index-layouts-m in
    let axis = c.args.axis in
    let tech = c.args.tech.now in
    let m = c.args.number - 2 in
    let master = master_at c.args.masters.now m in
    let read = slice_index c.args.bases.now m in
    let found = c.in_ok-found-in_default.found in (
      omega arith,
      subst (λ base. IsFound (own_kept_edges axis tech base master (layout_at c.args.layouts.now m)) found) (base_is at)
          (subst (λ (layout : Coords). IsFound (own_kept_edges axis tech read master layout) found) (layout_is at)
          (subst (λ (one : Master). IsFound (own_kept_edges axis tech read one c.index-layouts-m.result) found)
          (master_is at) c.in_ok-found-in_default.ensures)),
    )
