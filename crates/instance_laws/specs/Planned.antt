use Rattle.std.specs.Prelude.{All, List}
use Rattle.rule_table.specs.declared.technology.Tech.{Tech}
use Rattle.expand.specs.{declared.master.Master.Master, Masters.IsMaster}
use Rattle.plan_model.specs.{declared.plan.Plan.Plan, Plan.IsPlanOver}
use Rattle.pitch_join.specs.Masters.{ports_of_masters}

-- The masters are those of a plan, however many parts they have.
pub record AreOfPlan (tech : Tech) (plan : Plan) (masters : List Master) : Type 0 where
  pub each : All (IsMaster tech) masters
  pub planned : IsPlanOver (ports_of_masters masters) plan
