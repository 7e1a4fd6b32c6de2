-- The layouts between passes.
use Rattle.std.specs.Prelude.{◌≡◌, ℕ, ◌<◌, All, Contains, List, length}
use Rattle.lam_geom.specs.declared.boxes.Axis.{Axis}
use Rattle.rule_table.specs.declared.technology.Tech.{Tech}
use Rattle.sym_items.specs.{declared.items.Coords.Coords, Layouts.layout_at}
use Rattle.expand.specs.declared.master.Master.{Master}
use Rattle.pair_rules.specs.Clean.{IsClean}
use Rattle.coarse_grid.specs.Laws.{IsLayoutOf}
use Rattle.plan_model.specs.declared.plan.Plan.{Plan}
use Rattle.pitch_join.specs.{Layouts.LayoutsMeet, Masters.master_at}
use Rattle.pass_run.specs.{Layouts.start_of_master, Theorems.IsLong}

-- the start layout of a master is clean
abbrev pub StartsClean : Tech → Master → Type 0
StartsClean tech master = IsClean tech (start_of_master tech master) master.items.list

-- A layout of a master that a pass may be made over: the items keep their spacings.
pub record IsLaidOut (tech : Tech) (master : Master) (layout : Coords) : Type 0 where
  pub of_master : IsLayoutOf master layout
  pub clean : IsClean tech layout master.items.list

-- the same of layouts, one for each master
pub record AreLaidOut (tech : Tech) (masters : List Master) (layouts : List Coords) : Type 0 where
  pub counted : length layouts ≡ length masters
  pub each : (m : ℕ) → m < length masters → IsLaidOut tech (master_at masters m) (layout_at layouts m)

-- Where these axes have had passes: the layouts meet the plan on each of them, and the items are as long there as
-- they have to be.
pub record AreSettled (tech : Tech) (plan : Plan) (masters : List Master) (had : List Axis)
    (layouts : List Coords) : Type 0 where
  pub met : (axis : Axis) → Contains had axis → LayoutsMeet axis tech plan masters layouts
  pub long : (axis : Axis) → Contains had axis → (m : ℕ) → m < length masters
      → All (IsLong axis (layout_at layouts m)) (master_at masters m).items.list
