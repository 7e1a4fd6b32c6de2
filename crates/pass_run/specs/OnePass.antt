-- What it says that a pass over some layouts was made, and why there is none.
use Rattle.std.specs.Prelude.{◌≡◌, ℕ, ◌<◌, Bool, false, IsTrue, Contains, List, [], length}
use Rattle.lam_geom.specs.declared.boxes.Axis.{Axis}
use Rattle.rule_table.specs.declared.technology.Tech.{Tech}
use Rattle.sym_items.specs.declared.items.Coords.{Coords}
use Rattle.expand.specs.declared.master.Master.{Master}
use Rattle.plan_model.specs.declared.plan.Plan.{Plan}
use Rattle.pitch_join.specs.Joined.{pruned_system}
use Rattle.pass_run.specs.declared.{passes.PassFault.PassFault, pass.{Made.Made, Stop.{Stop, TheVariants.TooManyEdges}}}
use Rattle.pass_run.specs.{declared.pass.Stop.TheVariants.{Cycle, OutOfMemory}, Alike.most_edges, Laid.AreSettled}
use Rattle.pass_run.specs.{Layouts.moved_by, Least.StaySettled, PassFaults.IsCyclicOver, Passes.IsLeastPass}
use Rattle.pass_run.specs.{Passes.IsRecorded, Report.pass_text, Theorems.IsSoundPass, Told.IsTightMost}
use Rattle.pass_run.specs.declared.passes.PassFault.TheVariants as faults

-- The pass with this number was made over the layouts before it: its values are least, what is recorded of it is so,
-- and it is sound. These are the layouts after it, over which another may be made, and its text. Its greatest values
-- are told where that is asked for, and else nothing.
pub record IsPassMade (tech : Tech) (plan : Plan) (masters : List Master) (before : List Coords) (pass : ℕ)
    (told : Bool) (made : Made) : Type 0 where
  pub least : IsLeastPass tech plan masters before made.step
  pub recorded : IsRecorded tech plan masters before made.step
  pub sound : (had : List Axis) → AreSettled tech plan masters had before
      → IsSoundPass tech plan masters had before made.step
  pub layouts : made.layouts.items ≡ moved_by masters before made.step
  pub stays : StaySettled tech plan masters before made.step.axis (moved_by masters before made.step)
  pub text : made.text.items ≡ pass_text masters (pruned_system made.step.axis tech plan masters before) pass made.step
  pub most : IsTrue told → IsTightMost tech plan masters before made.step made.most
  pub none : told ≡ false → made.most ≡ []

-- a cycle comes only where the axis has had no pass
abbrev pub IsFirstOn : Tech → Plan → List Master → List Coords → Axis → Type 0
IsFirstOn tech plan masters layouts axis =
    (had : List Axis) → AreSettled tech plan masters had layouts → Contains had axis → ⊥

-- why there is no pass with this number on an axis over some layouts
abbrev pub StopsPass : Tech → Plan → List Master → List Coords → ℕ → Axis → Stop → Type 0
StopsPass tech plan masters layouts pass axis TooManyEdges =
    most_edges < length (pruned_system axis tech plan masters layouts)
StopsPass tech plan masters layouts pass axis (Cycle text) =
    IsCyclicOver tech plan masters layouts pass axis text.items × IsFirstOn tech plan masters layouts axis
StopsPass tech plan masters layouts pass axis OutOfMemory = Unit {0}

-- The passes end by this fault where one of them, with this number, stops without a cycle.
abbrev pub EndsPasses : ℕ → Stop → PassFault → Type 0
EndsPasses pass TooManyEdges fault = fault ≡ faults.TooManyEdges pass
EndsPasses pass (Cycle text) fault = ⊥
EndsPasses pass OutOfMemory fault = fault ≡ faults.OutOfMemory

-- the pass has no values, whatever the memory
abbrev pub HasNoValues : Stop → Type 0
HasNoValues TooManyEdges = Unit {0}
HasNoValues (Cycle text) = Unit {0}
HasNoValues OutOfMemory = ⊥
