-- How a design is laid out, and the masks and the report of its masters; and the steps to them.
use Rattle.std.specs.Prelude.{◌≡◌, ℕ, ◌<◌, ◌≤◌, All, Contains, List, [], length, take, flat_map}
use Rattle.lam_geom.specs.declared.boxes.Axis.{Axis, TheVariants.{X, Y}}
use Rattle.lam_io.specs.Io.{Bytes}
use Rattle.rule_table.specs.{declared.technology.Tech.Tech, Technology.widest_of}
use Rattle.sym_items.specs.{declared.items.Coords.Coords, Layouts.size_in}
use Rattle.stick_text.specs.declared.design.Design.{Design}
use Rattle.expand.specs.declared.master.Master.{Master}
use Rattle.pair_rules.specs.Bound.{item_at}
use Rattle.coarse_grid.specs.{Start.start_of, Clash.IsFirstClash, Ranges.ShareAPoint}
use Rattle.plan_model.specs.{declared.plan.Plan.Plan, Plan.grids_of}
use Rattle.pitch_join.specs.Masters.{master_at}
use Rattle.rule_breaks.specs.Breaks.{KeepRules}
use Rattle.written_masks.specs.Written.{HasSticksNets}
use Rattle.instance_laws.specs.Rules.{AllKeepSpacing}
use Rattle.pass_run.specs.{declared.{step.Step.Step, passes.PassFault.PassFault}, Laid.StartsClean, Layouts.starts_of}
use Rattle.pass_run.specs.{Layouts.layouts_after, Passes.{ArePasses, axes_of}, Report.report_of, Theorems.AreSound}
use Rattle.pass_run.specs.PassFaults.{RefusesPasses}
use Rattle.pass_run.specs.declared.passes.PassFault.TheVariants as stop
use Rattle.command_files.specs.declared.{refusal.Refusal.Refusal, status.What.TheVariants.{Edges, Extent}}
use Rattle.command_files.specs.{declared.status.Status.Status, Refusals.{plain, told}, Limits.most_cif_bytes}
use Rattle.command_files.specs.StepLists.{Steps, makes, needs, ends, Stops}
use Rattle.mask_out.specs.Pictures.{drawings_in, calls_of}
use Rattle.cif_text.specs.Calls.{parts_of}
use Rattle.design_layouts.specs.Plans.{with_masters}
use Rattle.fault_lines.specs.Clash.{clash_text}
use Rattle.extents.specs.Extents.{unit_of, IsWithin, IsPast}
use Rattle.design_masters.specs.Limits.{most_boxes}
use Rattle.command_files.specs.declared.status.Status.TheVariants as statuses

-- the passes are on both axes
abbrev pub HasBothAxes : List Axis → Type 0
HasBothAxes axes = (axis : Axis) → Contains axes axis

-- The passes of all masters on these axes, from their clean start layouts on: each gives its axis the least values that
-- any solution of its system has. Theorems say that the walks of each pass are critical paths, that no pass on an axis
-- that has had one makes a value grow, and that after each pass every item has a box that is as long as it has to be
-- and bound items of a master keep their spacing.
pub record ArePassesOn (tech : Tech) (plan : Plan) (masters : List Master) (axes : List Axis) (steps : List Step)
    : Type 0 where
  pub clean : All (StartsClean tech) masters
  pub on_axes : axes_of steps ≡ axes
  pub passes : ArePasses tech plan masters (starts_of tech masters) steps
  pub sound : AreSound tech plan masters [] (starts_of tech masters) steps

-- the layouts that they leave
abbrev pub last_layouts : Tech → List Master → List Step → List Coords
last_layouts tech masters steps = layouts_after masters (starts_of tech masters) steps

-- the text of each symbol of the masks of the last layouts, and that of the calls with the end
abbrev pub masks_parts : Tech → Plan → List Master → List Step → List Bytes
masks_parts tech plan masters steps =
    parts_of (unit_of tech) (drawings_in masters (last_layouts tech masters steps))
    (calls_of (size_in X (last_layouts tech masters steps)) (size_in Y (last_layouts tech masters steps))
    (widest_of tech) (grids_of plan))

-- the text of the masks
abbrev pub masks_text : Tech → Plan → List Master → List Step → Bytes
masks_text tech plan masters steps = flat_map (λ part. part) (masks_parts tech plan masters steps)

-- Those whose last layouts are not too large together. Theorems say that every two bound items of all instances keep
-- their spacing; that the text of the masks means boxes that show the items of all instances, one by one, from which
-- the netlist of the sticks is extracted; and that these boxes keep every rule of the technology. They and the text
-- are not too large to be read again.
pub record ArePlaced (tech : Tech) (plan : Plan) (masters : List Master) (axes : List Axis) (steps : List Step)
    : Type 0 where
  pub made : ArePassesOn tech plan masters axes steps
  pub within : IsWithin tech plan (last_layouts tech masters steps)
  pub spaced : AllKeepSpacing tech plan masters (last_layouts tech masters steps)
  pub nets : HasSticksNets tech plan masters (last_layouts tech masters steps) (masks_text tech plan masters steps)
  pub rules : KeepRules tech nets.boxes
  pub few : length nets.boxes ≤ most_boxes
  pub short : length (masks_text tech plan masters steps) ≤ most_cif_bytes

-- the text of the passes
abbrev pub passes_text : Tech → Plan → List Master → List Step → Bytes
passes_text tech plan masters steps = report_of tech plan masters (starts_of tech masters) steps

-- The first pair of items that clashes in the start layout of a master, and the line that names their owners, whose
-- coarse ranges share a grid point.
pub record HasClash (tech : Tech) (master : Master) (a b : ℕ) (line : Bytes) : Type 0 where
  pub first : IsFirstClash tech (start_of tech master.cell) master.items.list a b
  pub near : ShareAPoint master.cell (item_at master.items.list a).owner (item_at master.items.list b).owner
  pub says : line ≡ clash_text master.cell (item_at master.items.list a).owner (item_at master.items.list b).owner

-- Why the start layout of a master is refused, which has this number.
abbrev pub RefusesStart : Tech → Master → ℕ → Status → Bytes → Type 0
RefusesStart tech master number statuses.OutOfMemory message = Unit {0}
RefusesStart tech master number (statuses.Clash cell a b) message = (cell ≡ number) × HasClash tech master a b message
RefusesStart tech master number other message = ⊥

-- The first master whose start layout has a clash, and its first pair.
pub record IsFirstUnclean (tech : Tech) (masters : List Master) (number a b : ℕ) (line : Bytes) : Type 0 where
  pub among : number < length masters
  pub before : All (StartsClean tech) (take number masters)
  pub clash : HasClash tech (master_at masters number) a b line

-- ---- the start layouts, the passes and the extent, as steps

-- Why start layouts are refused. The text is that of the clash.
abbrev pub NoStarts : Tech → List Master → Status → Bytes → Type 0
NoStarts tech masters (statuses.Clash number a b) message = IsFirstUnclean tech masters number a b message
NoStarts tech masters other message = ⊥

-- Why passes are: the first that has no values. The text is that of the passes before it and of its cycle.
abbrev pub NoPasses : Tech → Plan → List Master → List Axis → Status → Bytes → Type 0
NoPasses tech plan masters axes (statuses.TooLarge Edges) message =
    (pass : ℕ) × RefusesPasses tech plan masters axes (stop.TooManyEdges pass)
NoPasses tech plan masters axes (statuses.Unsatisfiable pass) message =
    RefusesPasses tech plan masters axes (stop.Unsatisfiable pass message)
NoPasses tech plan masters axes other message = ⊥

-- why the passes of a cell end
abbrev pub refusal_of : PassFault → Refusal
refusal_of (stop.TooManyEdges pass) = plain (statuses.TooLarge Edges)
refusal_of (stop.Unsatisfiable pass report) = told (statuses.Unsatisfiable pass) report
refusal_of stop.OutOfMemory = plain statuses.OutOfMemory

-- Why the last layouts are: together they are too wide or too high.
abbrev pub NoExtent : Tech → Plan → List Master → List Step → Status → Bytes → Type 0
NoExtent tech plan masters steps (statuses.TooLarge Extent) message = IsPast tech plan (last_layouts tech masters steps)
NoExtent tech plan masters steps other message = ⊥

-- starts
abbrev pub clean_starts : Tech → List Master → Steps → Steps
clean_starts tech masters rest = needs (All (StartsClean tech) masters) (NoStarts tech masters) rest

-- passes, extent
abbrev pub with_passes : Tech → List Axis → Plan → List Master → (List Step → Steps) → Steps
with_passes tech axes plan masters rest =
    makes (ArePassesOn tech plan masters axes) (NoPasses tech plan masters axes) (λ steps.
    needs (ArePlaced tech plan masters axes steps) (NoExtent tech plan masters steps) (rest steps))

-- plan, masters, starts
abbrev pub with_starts : Tech → Design → (Plan → List Master → Steps) → Steps
with_starts tech design rest = with_masters tech design (λ plan masters. clean_starts tech masters (rest plan masters))

-- plan, masters, starts, passes, extent
abbrev pub with_layout : Tech → List Axis → Design → (Plan → List Master → List Step → Steps) → Steps
with_layout tech axes design rest =
    with_starts tech design (λ plan masters. with_passes tech axes plan masters (rest plan masters))

-- Why masters are not laid out, and why a design has no clean start layouts, or is not laid out.
abbrev pub RefusesMasters : Tech → Plan → List Master → List Axis → Status → Bytes → Type 0
RefusesMasters tech plan masters axes =
    Stops (clean_starts tech masters (with_passes tech axes plan masters (λ steps. ends)))

abbrev pub RefusesStarts : Tech → Design → Status → Bytes → Type 0
RefusesStarts tech design = Stops (with_starts tech design (λ plan masters. ends))

abbrev pub RefusesDesign : Tech → List Axis → Design → Status → Bytes → Type 0
RefusesDesign tech axes design = Stops (with_layout tech axes design (λ plan masters steps. ends))
