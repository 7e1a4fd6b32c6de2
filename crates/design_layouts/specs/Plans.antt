-- The plan of a design and its masters, as steps: why it has none, by the status and the line.
use Rattle.std.specs.Prelude.{◌≡◌, ℕ, Option, None, List, [], Err, slice_index_or}
use Rattle.lam_io.specs.Io.{Bytes}
use Rattle.rule_table.specs.declared.technology.Tech.{Tech}
use Rattle.stick_text.specs.declared.design.{Design.Design, GridText.GridText}
use Rattle.checked_cells.specs.{CheckedCell.CheckedCell, Grids.resolved_cells}
use Rattle.expand.specs.declared.master.Master.{Master}
use Rattle.plan_model.specs.declared.plan.Plan.{Plan}
use Rattle.design_masters.specs.declared.fault.MastersFault.{MastersFault}
use Rattle.design_masters.specs.Plans.{IsPlanned, AreMastersOf, HasGridFault, IsTooLarge}
use Rattle.design_masters.specs.declared.fault.MastersFault.TheVariants as fault
use Rattle.command_files.specs.declared.{refusal.Refusal.Refusal, status.What.TheVariants.{Items, Boxes}}
use Rattle.command_files.specs.{declared.status.Status.Status, Refusals.{plain, told}, StepLists.{Steps, makes, ends}}
use Rattle.command_files.specs.StepLists.{Stops}
use Rattle.fault_lines.specs.{FaultLines.stick_line, GridLines.grid_line}
use Rattle.command_files.specs.declared.status.Status.TheVariants as statuses

-- the name of a grid, where it has one
abbrev pub no_grid : GridText
no_grid = record { name = None; line = 0; rows = [] }

abbrev pub grid_name : Design → ℕ → Option (List ℕ)
grid_name design g = (slice_index_or design.grids g no_grid).name

-- ---- the plan and the masters, as steps

-- its names and sizes have no fault, and its grids have this plan
abbrev pub HasPlan : Tech → Design → Plan → Type 0
HasPlan tech design plan = (cells : List CheckedCell) × IsPlanned tech design cells plan

-- Why it has no plan. The text is that of its first fault.
abbrev pub NoPlan : Tech → Design → Status → Bytes → Type 0
NoPlan tech design (statuses.BadSticks fault) message = (resolved_cells tech design ≡ Err fault)
    × (message ≡ stick_line fault)
NoPlan tech design (statuses.BadGrid grid fault) message =
    HasGridFault tech design grid fault × (message ≡ grid_line (grid_name design grid) fault)
NoPlan tech design other message = ⊥

-- Why its masters are not made: they have too many items, or else all instances have too many mask boxes.
abbrev pub NoMasters : Tech → Design → Status → Bytes → Type 0
NoMasters tech design (statuses.TooLarge Items) message = IsTooLarge tech design fault.TooManyItems
NoMasters tech design (statuses.TooLarge Boxes) message = IsTooLarge tech design fault.TooManyBoxes
NoMasters tech design other message = ⊥

-- plan, masters
abbrev pub with_masters : Tech → Design → (Plan → List Master → Steps) → Steps
with_masters tech design rest =
    makes (HasPlan tech design) (NoPlan tech design) (λ plan.
    makes (AreMastersOf tech design plan) (NoMasters tech design) (rest plan))

-- why a design has no masters
abbrev pub RefusesPlan : Tech → Design → Status → Bytes → Type 0
RefusesPlan tech design = Stops (with_masters tech design (λ plan masters. ends))

-- what that comes to
abbrev pub masters_refusal : Design → MastersFault → Refusal
masters_refusal design (fault.Stick fault) = told (statuses.BadSticks fault) (stick_line fault)
masters_refusal design (fault.Grid grid fault) =
    told (statuses.BadGrid grid fault) (grid_line (grid_name design grid) fault)
masters_refusal design fault.TooManyItems = plain (statuses.TooLarge Items)
masters_refusal design fault.TooManyBoxes = plain (statuses.TooLarge Boxes)
masters_refusal design fault.OutOfMemory = plain statuses.OutOfMemory
