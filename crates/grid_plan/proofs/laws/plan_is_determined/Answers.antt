use Rattle.grid_plan.proofs.Determined.{determined}
use Rattle.grid_plan.proofs.laws.plan_is_determined.Goals as goal

pub returns : goal.returns
returns c = determined
