-- Least layouts of masters: what passes place, and one place at most.
use Rattle.std.{proofs.Common.{◌≡◌, List, [], ◌∷◌, inl, inr, sym, subst}, specs.Prelude.All}
use Rattle.lam_geom.specs.declared.boxes.Axis.{Axis}
use Rattle.lam_io.specs.Io.{Bytes}
use Rattle.rule_table.specs.declared.technology.Tech.{Tech}
use Rattle.sym_items.specs.declared.items.Coords.{Coords}
use Rattle.stick_text.specs.declared.design.Design.{Design as Sticks}
use Rattle.expand.specs.declared.master.Master.{Master}
use Rattle.plan_model.specs.declared.plan.Plan.{Plan}
use Rattle.pass_run.specs.{declared.step.Step.Step, Laid.StartsClean, Layouts.starts_of, Least.LeadTo}
use Rattle.pass_run.proofs.Leading.{lead_to_one_place}
use Rattle.pass_run.specs.declared.passes.PassFault.TheVariants as stop
use Rattle.command_files.specs.declared.status.{What.TheVariants.{Edges, Extent}, Status.Status}
use Rattle.command_files.specs.StepLists.{StepsStop, ends}
use Rattle.design_layouts.specs.Designs.{ArePassesOn, ArePlaced, NoPasses, NoExtent, RefusesDesign, last_layouts}
use Rattle.design_layouts.specs.Designs.{clean_starts, with_passes}
use Rattle.design_layouts.proofs.{OneMaster.{not_unclean, not_within}, OnePlan.after_masters}
use Rattle.edit_command.specs.Edits.{AreLeastLayouts}
use Rattle.design_masters.specs.Plans.{AreMastersOf}
use Rattle.extents.specs.Extents.{IsPast, IsWithin}
use Rattle.command_files.specs.declared.status.Status.TheVariants as statuses

-- ---- passes

-- passes on some axes lead to the layouts that they leave
passes_lead : (tech : Tech) (plan : Plan) (masters : List Master) (axes : List Axis) (steps : List Step)
    → ArePassesOn tech plan masters axes steps
    → LeadTo tech plan masters axes (starts_of tech masters) (last_layouts tech masters steps)
passes_lead tech plan masters axes steps made =
    let L : List Axis → Type 0 =
    λ on. LeadTo tech plan masters on (starts_of tech masters) (last_layouts tech masters steps) in
    subst L made.on_axes ((lead_to_one_place tech plan masters).steps (starts_of tech masters) steps made.passes)

-- layouts that are placed are least
pub placed_least : (tech : Tech) (plan : Plan) (masters : List Master) (axes : List Axis) (steps : List Step)
    → ArePlaced tech plan masters axes steps
    → AreLeastLayouts tech plan masters axes (last_layouts tech masters steps)
placed_least tech plan masters axes steps placed =
    record {
      clean = placed.made.clean;
      lead = passes_lead tech plan masters axes steps placed.made;
      within = placed.within;
    }

-- a pass, and those after it
lead_after : (tech : Tech) (plan : Plan) (masters : List Master) (axis : Axis) (later : List Axis)
    (before mid after : List Coords) → LeadTo tech plan masters (axis ∷ []) before mid
    → LeadTo tech plan masters later mid after → LeadTo tech plan masters (axis ∷ later) before after
lead_after tech plan masters axis later before mid after first then =
    let L : List Coords → Type 0 = λ cs. LeadTo tech plan masters later cs after in
    (first.0, first.1, subst L first.2 then)

-- the passes after a first one that is known
pub after_first : (tech : Tech) (plan : Plan) (masters : List Master) (axes later : List Axis) (axis message : Axis)
    (before layouts : List Coords) → axes ≡ axis ∷ later → message ≡ axis
    → All (StartsClean tech) masters → LeadTo tech plan masters (message ∷ []) (starts_of tech masters) before
    → LeadTo tech plan masters later before layouts → IsWithin tech plan layouts
    → AreLeastLayouts tech plan masters axes layouts
after_first tech plan masters axes later axis message before layouts are same clean first then within =
    let F : Axis → Type 0 = λ a. LeadTo tech plan masters (a ∷ []) (starts_of tech masters) before in
    let L : List Axis → Type 0 = λ on. LeadTo tech plan masters on (starts_of tech masters) layouts in
    let lead : L (axis ∷ later) =
    lead_after tech plan masters axis later (starts_of tech masters) before layouts (subst F same first) then in
    record { clean = clean; lead = subst L (sym are) lead; within = within }

-- ---- one place

-- masters have one list of least layouts at most
pub one_layouts : (tech : Tech) (plan : Plan) (masters : List Master) (axes : List Axis) (a b : List Coords)
    → AreLeastLayouts tech plan masters axes a → AreLeastLayouts tech plan masters axes b → a ≡ b
one_layouts tech plan masters axes a b p q =
    (lead_to_one_place tech plan masters).one axes (starts_of tech masters) a b p.lead q.lead

-- ---- no refusal

-- nor are the passes of masters with least layouts
not_stopped : (tech : Tech) (plan : Plan) (masters : List Master) (axes : List Axis) (layouts : List Coords)
    (status : Status) (message : Bytes) → AreLeastLayouts tech plan masters axes layouts
    → NoPasses tech plan masters axes status message → ⊥
not_stopped tech plan masters axes layouts (statuses.TooLarge Edges) message least why =
    let e : stop.TooManyEdges why.0 ≡ stop.OutOfMemory =
    (lead_to_one_place tech plan masters).not_refused axes layouts (stop.TooManyEdges why.0) least.lead why.1 in
    cc
not_stopped tech plan masters axes layouts (statuses.Unsatisfiable pass) message least why =
    let e : stop.Unsatisfiable pass message ≡ stop.OutOfMemory =
    (lead_to_one_place tech plan masters).not_refused axes layouts (stop.Unsatisfiable pass message) least.lead
    why in cc
not_stopped tech plan masters axes layouts other message least why = why

-- or their extent
not_past : (tech : Tech) (plan : Plan) (masters : List Master) (axes : List Axis) (layouts : List Coords)
    (steps : List Step) (status : Status) (message : Bytes)
    → AreLeastLayouts tech plan masters axes layouts → ArePassesOn tech plan masters axes steps
    → NoExtent tech plan masters steps status message → ⊥
not_past tech plan masters axes layouts steps (statuses.TooLarge Extent) message least made why =
    let P : List Coords → Type 0 = λ cs. IsPast tech plan cs in
    let same = (lead_to_one_place tech plan masters).one axes (starts_of tech masters) layouts
    (last_layouts tech masters steps) least.lead (passes_lead tech plan masters axes steps made) in
    not_within tech plan layouts least.within (subst P (sym same) why)
not_past tech plan masters axes layouts steps other message least made why = why

least_masters : (tech : Tech) (plan : Plan) (masters : List Master) (axes : List Axis) (layouts : List Coords)
    (status : Status) (message : Bytes) → AreLeastLayouts tech plan masters axes layouts
    → StepsStop (clean_starts tech masters (with_passes tech axes plan masters (λ steps. ends))) status message → ⊥
least_masters tech plan masters axes layouts status message least (inl cause) =
    not_unclean tech masters status message least.clean cause.1
least_masters tech plan masters axes layouts status message least (inr (u, clean, inl cause)) =
    not_stopped tech plan masters axes layouts status message least cause.1
least_masters tech plan masters axes layouts status message least (inr (u, clean, inr (steps, made, inl cause))) =
    not_past tech plan masters axes layouts steps status message least made cause.1
least_masters tech plan masters axes layouts status message least
    (inr (u, clean, inr (steps, made, inr (v, placed, none)))) = none

-- nor is a design with such masters, but for want of memory
pub least_not_refused : (tech : Tech) (axes : List Axis) (design : Sticks) (status : Status) (message : Bytes)
    → RefusesDesign tech axes design status message → (status ≡ statuses.OutOfMemory → ⊥)
    → (plan : Plan) (masters : List Master) (layouts : List Coords) → AreMastersOf tech design plan masters
    → AreLeastLayouts tech plan masters axes layouts → ⊥
least_not_refused tech axes design status message (inl none) has plan masters layouts are least = has none
least_not_refused tech axes design status message (inr why) has plan masters layouts are least =
    least_masters tech plan masters axes layouts status message least
    (after_masters tech design (λ p ms. clean_starts tech ms (with_passes tech axes p ms (λ steps. ends))) status
    message plan masters are why)
