use Rattle.std.proofs.Common.{◌≡◌, take, None}
use Rattle.plan_model.specs.Borders.{misfit}
use Rattle.grid_plan.proofs.borders.misfit.Given as goal

abbrev pub invariant-loop-k : goal.invariant-loop-k
invariant-loop-k l = misfit (take l.k l.before) (take l.k l.after) ≡ None
