use Rattle.std.proofs.Common.{◌≡◌, ◌^◌, ◌≤◌, List, length, refl, ap, ◌∙◌, subst, arith}
use Rattle.std.proofs.lemmas.{Int.ints, Result.err_from_is_err_and}
use Rattle.lam_geom.specs.declared.boxes.{Axis.TheVariants.{X, Y}, MaskBox.MaskBox}
use Rattle.rule_table.proofs.{Margins.widest_positive, Sound.sound}
use Rattle.sym_items.specs.declared.items.Coords.{Coords}
use Rattle.instance_laws.specs.{Rules.AllKeepSpacing, Shapes.AreShapes}
use Rattle.rule_breaks.specs.Breaks.{KeepRules}
use Rattle.master_counts.specs.Parts.{boxes_of_instances}
use Rattle.written_masks.specs.Written.{HasSticksNets, text_of_layouts}
use Rattle.extents.specs.Extents.{IsWithin}
use Rattle.design_layouts.{specs.Designs.with_passes, proofs.{Stopping.no_starts, Layouts.{stopped, too_large}}}
use Rattle.design_layouts.proofs.Layouts.{finished, sizes_above, boxed, within_length, of_plan}
use Rattle.command_files.specs.StepLists.{ends}
use Rattle.design_layouts.proofs.layout.lay_out.Goals as goal

pub returns-in_err-starts-clause-refused : goal.returns-in_err-starts-clause-refused
returns-in_err-starts-clause-refused g c =
    let p = err_from_is_err_and c.from_residual.result c.from_residual.ensures.1 in
    rw p.1 (rw p.2
    (no_starts c.args.tech.now c.args.masters.now
    (with_passes c.args.tech.now c.args.axes.now c.args.plan.now c.args.masters.now (λ steps. ends)) _ _
    c.in_err-starts.ensures.refused))

pub returns-in-Err-clause-refused : goal.returns-in-Err-clause-refused
returns-in-Err-clause-refused g c =
    rw c.refusal_of.ensures
    (stopped c.args.tech.now c.args.plan.now c.args.masters.now c.args.axes.now c.in-Err.fault
    c.in_ok-starts.ensures.clean c.in-Err.ensures.refused)

pub grids_are_aligned-requires-clause-planned : goal.grids_are_aligned-requires-clause-planned
grids_are_aligned-requires-clause-planned g c = of_plan c.requires.planned

pub all_keep_spacing-requires-clause-planned : goal.all_keep_spacing-requires-clause-planned
all_keep_spacing-requires-clause-planned g c = of_plan c.requires.planned

pub written_nets_are_the_sticks-requires-clause-planned : goal.written_nets_are_the_sticks-requires-clause-planned
written_nets_are_the_sticks-requires-clause-planned g c = of_plan c.requires.planned

pub boxes_keep_rules-requires-clause-planned : goal.boxes_keep_rules-requires-clause-planned
boxes_keep_rules-requires-clause-planned g c = of_plan c.requires.planned

pub boxes_are_few-requires-clause-planned : goal.boxes_are_few-requires-clause-planned
boxes_are_few-requires-clause-planned g c = of_plan c.requires.planned

pub texts_are_short-requires-clause-planned : goal.texts_are_short-requires-clause-planned
texts_are_short-requires-clause-planned g c = of_plan c.requires.planned

pub grids_are_aligned-requires-clause-finished : goal.grids_are_aligned-requires-clause-finished
grids_are_aligned-requires-clause-finished g c =
    let q = c.in-Ok.ensures.made in
    finished c.args.tech.now c.args.plan.now c.args.masters.now c.args.axes.now _ _ c.as_slice-layouts.ensures
    c.requires.both q.placed q.met

pub all_keep_spacing-requires-clause-finished : goal.all_keep_spacing-requires-clause-finished
all_keep_spacing-requires-clause-finished g c =
    let q = c.in-Ok.ensures.made in
    finished c.args.tech.now c.args.plan.now c.args.masters.now c.args.axes.now _ _ c.as_slice-layouts.ensures
    c.requires.both q.placed q.met

pub written_nets_are_the_sticks-requires-clause-finished : goal.written_nets_are_the_sticks-requires-clause-finished
written_nets_are_the_sticks-requires-clause-finished g c =
    let q = c.in-Ok.ensures.made in
    finished c.args.tech.now c.args.plan.now c.args.masters.now c.args.axes.now _ _ c.as_slice-layouts.ensures
    c.requires.both q.placed q.met

pub boxes_keep_rules-requires-clause-finished : goal.boxes_keep_rules-requires-clause-finished
boxes_keep_rules-requires-clause-finished g c =
    let q = c.in-Ok.ensures.made in
    finished c.args.tech.now c.args.plan.now c.args.masters.now c.args.axes.now _ _ c.as_slice-layouts.ensures
    c.requires.both q.placed q.met

pub texts_are_short-requires-clause-finished : goal.texts_are_short-requires-clause-finished
texts_are_short-requires-clause-finished g c =
    let q = c.in-Ok.ensures.made in
    finished c.args.tech.now c.args.plan.now c.args.masters.now c.args.axes.now _ _ c.as_slice-layouts.ensures
    c.requires.both q.placed q.met

pub boxes_are_few-requires-clause-counted : goal.boxes_are_few-requires-clause-counted
boxes_are_few-requires-clause-counted g c = ap (λ (cs : List Coords). length cs) c.as_slice-layouts.ensures
    ∙ c.in-Ok.ensures.made.laid.counted

pub check_extent-requires-clause-widths : goal.check_extent-requires-clause-widths
check_extent-requires-clause-widths g c =
    sizes_above c.args.tech.now c.args.masters.now _ _ c.as_slice-layouts.ensures c.in-Ok.ensures.made.laid X

pub check_extent-requires-clause-heights : goal.check_extent-requires-clause-heights
check_extent-requires-clause-heights g c =
    sizes_above c.args.tech.now c.args.masters.now _ _ c.as_slice-layouts.ensures c.in-Ok.ensures.made.laid Y

pub wholes_bound_places-requires-clause-widths : goal.wholes_bound_places-requires-clause-widths
wholes_bound_places-requires-clause-widths g c =
    sizes_above c.args.tech.now c.args.masters.now _ _ c.as_slice-layouts.ensures c.in-Ok.ensures.made.laid X

pub wholes_bound_places-requires-clause-heights : goal.wholes_bound_places-requires-clause-heights
wholes_bound_places-requires-clause-heights g c =
    sizes_above c.args.tech.now c.args.masters.now _ _ c.as_slice-layouts.ensures c.in-Ok.ensures.made.laid Y

pub wholes_bound_places-requires-clause-widest : goal.wholes_bound_places-requires-clause-widest
wholes_bound_places-requires-clause-widest g c = let w =
    widest_positive c.args.tech.now.numbers (sound _ c.args.tech.now.sound) in omega (arith, ints, w)

pub wholes_bound_places-requires-clause-narrow : goal.wholes_bound_places-requires-clause-narrow
wholes_bound_places-requires-clause-narrow g c =
    within_length c.args.tech.now _ c.in_ok-check_extent.ensures.within.width

pub wholes_bound_places-requires-clause-low : goal.wholes_bound_places-requires-clause-low
wholes_bound_places-requires-clause-low g c = within_length c.args.tech.now _ c.in_ok-check_extent.ensures.within.height

pub written_nets_are_the_sticks-requires-clause-fit : goal.written_nets_are_the_sticks-requires-clause-fit
written_nets_are_the_sticks-requires-clause-fit g c =
    let within = c.in_ok-check_extent.ensures.within in
    record {
      counted = ap (λ (cs : List Coords). length cs) c.as_slice-layouts.ensures ∙ c.in-Ok.ensures.made.laid.counted;
      named = c.requires.named;
      stand = c.requires.stand;
      width = within.width;
      height = within.height;
    }

pub texts_are_short-requires-clause-fit : goal.texts_are_short-requires-clause-fit
texts_are_short-requires-clause-fit g c =
    let within = c.in_ok-check_extent.ensures.within in
    record {
      counted = ap (λ (cs : List Coords). length cs) c.as_slice-layouts.ensures ∙ c.in-Ok.ensures.made.laid.counted;
      named = c.requires.named;
      stand = c.requires.stand;
      width = within.width;
      height = within.height;
    }

pub returns-in_err-check_extent-clause-refused : goal.returns-in_err-check_extent-clause-refused
returns-in_err-check_extent-clause-refused g c =
    let p = err_from_is_err_and c.from_residual-in_err-check_extent.result
    c.from_residual-in_err-check_extent.ensures.1 in
    let q = c.in-Ok.ensures.made in
    rw p.1 (rw p.2
    (too_large c.args.tech.now c.args.plan.now c.args.masters.now c.args.axes.now c.in-Ok.passes.steps
    c.as_slice-layouts.result.now
    (record { clean = c.in_ok-starts.ensures.clean; on_axes = q.on_axes; passes = q.passes; sound = q.sound_passes })
    (c.as_slice-layouts.ensures ∙ q.last)
    c.in_err-check_extent.ensures.past))

pub returns-clause-laid_out : goal.returns-clause-laid_out
returns-clause-laid_out g c =
    let q = c.in-Ok.ensures.made in
    let is = c.as_slice-layouts.ensures ∙ q.last in
    let W : List Coords → Type 0 = λ cs. IsWithin c.args.tech.now c.args.plan.now cs in
    let S : List Coords → Type 0 = λ cs. AllKeepSpacing c.args.tech.now c.args.plan.now c.args.masters.now cs in
    let N : List Coords → Type 0 =
    λ cs. HasSticksNets c.args.tech.now c.args.plan.now c.args.masters.now cs
    (text_of_layouts c.args.tech.now c.args.plan.now c.args.masters.now cs) in
    let K : List Coords → Type 0 = λ cs. (boxes : List MaskBox)
    → AreShapes c.args.tech.now c.args.plan.now c.args.masters.now cs boxes → KeepRules c.args.tech.now boxes in
    let F : List Coords → Type 0 = λ cs. (boxes : List MaskBox)
    → AreShapes c.args.tech.now c.args.plan.now c.args.masters.now cs boxes
    → length boxes ≡ boxes_of_instances c.args.plan.now c.args.masters.now in
    let T : List Coords → Type 0 =
    λ cs. length (text_of_layouts c.args.tech.now c.args.plan.now c.args.masters.now cs) ≤ 2 ^ 26 in
    let nets = subst N is c.written_nets_are_the_sticks.ensures in
    record {
      made = record {
        clean = c.in_ok-starts.ensures.clean;
        on_axes = q.on_axes;
        passes = q.passes;
        sound = q.sound_passes;
      };
      within = subst W is c.in_ok-check_extent.ensures.within;
      spaced = subst S is c.all_keep_spacing.ensures;
      nets = nets;
      rules = subst K is c.boxes_keep_rules.ensures nets.boxes nets.shapes;
      few = (let same = subst F is c.boxes_are_few.ensures.shown nets.boxes nets.shapes in let most =
          c.requires.few_boxes in omega (arith, same, most));
      short = subst T is c.texts_are_short.ensures;
    }

pub returns-clause-boxes : goal.returns-clause-boxes
returns-clause-boxes g c = boxed c.args.tech.now c.args.masters.now c.args.axes.now c.in-Ok.passes.coords
    c.in-Ok.ensures.made.placed

pub returns-clause-finished : goal.returns-clause-finished
returns-clause-finished g c =
    let q = c.in-Ok.ensures.made in
    finished c.args.tech.now c.args.plan.now c.args.masters.now c.args.axes.now _ _ refl c.requires.both q.placed q.met
