-- Pruning loses nothing.
use Rattle.std.specs.Prelude.{List}
use Rattle.lam_geom.specs.declared.boxes.Axis.{Axis}
use Rattle.rule_table.specs.declared.technology.Tech.{Tech}
use Rattle.sym_items.specs.declared.items.Coords.{Coords}
use Rattle.expand.specs.declared.master.Master.{Master}
use Rattle.plan_model.specs.declared.plan.Plan.{Plan}
use Rattle.pitch_join.specs.{Joined.{full_system, pruned_system}, Meeting.HaveBoxes}
use Rattle.pass_run.specs.Alike.{HaveSameSolutions, HaveCyclesAlike}

-- Over layouts that give every item a box, the list of a pass on an axis has the same solutions as its system, and
-- one of them has a positive cycle exactly where the other has.
pub record PruningLosesNothing (tech : Tech) (plan : Plan) (masters : List Master) : Type 0 where
  pub same_solutions : (axis : Axis) (layouts : List Coords) → HaveBoxes masters layouts
      → HaveSameSolutions (pruned_system axis tech plan masters layouts) (full_system axis tech plan masters layouts)
  pub same_cycles : (axis : Axis) (layouts : List Coords) → HaveBoxes masters layouts
      → HaveCyclesAlike (pruned_system axis tech plan masters layouts) (full_system axis tech plan masters layouts)
