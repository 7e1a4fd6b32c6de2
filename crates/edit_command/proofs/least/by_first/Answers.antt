use denote.Enum.Bare.{differs_false}
use Rattle.std.proofs.Common.{◌≡◌, List, sym, subst, rules}
use Rattle.lam_geom.specs.{contracts.boxes.Axis.the_type, declared.boxes.Axis.TheVariants.{X, Y}}
use Rattle.sym_items.specs.declared.items.Coords.{Coords}
use Rattle.extents.specs.Extents.{IsWithin}
use Rattle.design_layouts.proofs.Layouts.{sizes_above}
use Rattle.edit_command.proofs.LeastLayouts.{after_first}
use Rattle.edit_command.proofs.least.by_first.Goals as goal

pub check_extent-requires-clause-widths : goal.check_extent-requires-clause-widths
check_extent-requires-clause-widths g c =
    sizes_above c.args.tech.now c.args.masters.now c.in-Some-3.layouts.items c.deref.result.now c.deref.ensures.value
    (rw c.in-Some-3.is at c.in_ok-layouts.ensures.laid) X

pub check_extent-requires-clause-heights : goal.check_extent-requires-clause-heights
check_extent-requires-clause-heights g c =
    sizes_above c.args.tech.now c.args.masters.now c.in-Some-3.layouts.items c.deref.result.now c.deref.ensures.value
    (rw c.in-Some-3.is at c.in_ok-layouts.ensures.laid) Y

pub returns-in-Ok-clause-least : goal.returns-in-Ok-clause-least
returns-in-Ok-clause-least g c =
    let message : c.args.first.now.axis ≡ c.in-Some.axis.now =
    differs_false the_type (search rules) _ _ (sym c.if-ne.ensures) in
    let W : List Coords → Type 0 = λ cs. IsWithin c.args.tech.now c.args.plan.now cs in
    after_first c.args.tech.now c.args.plan.now c.args.masters.now c.args.axes.now c.in-Some.later.now
    c.in-Some.axis.now c.args.first.now.axis c.in-Some-2.before.items c.in-Some-3.layouts.items
    (rw c.in-Some.is at c.split_first.ensures.cases).0 message (rw c.in-Some-2.is at c.in_ok-before.ensures.clean)
    (rw c.in-Some-2.is at c.in_ok-before.ensures.lead) (rw c.in-Some-3.is at c.in_ok-layouts.ensures.lead)
    (subst W c.deref.ensures.value c.in-Ok.ensures.within)
