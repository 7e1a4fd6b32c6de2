use Rattle.std.proofs.Common.{◌-◌, suc, length}
use Rattle.round_log.specs.Looks.{backward_numbers}
use Rattle.liao_wong.specs.{Running.HasCome, Worklist.IsWorklist}
use Rattle.liao_wong.proofs.solver.run_by.Given as goal

abbrev pub invariant-rounds : goal.invariant-rounds
invariant-rounds l = record {
  come : HasCome l.g l.order.variables.now l.rounds l.floor l.raises;
  worklist : IsWorklist l.g.edges l.order.variables.now l.work.ready l.work.waiting l.raises.raises;
}

abbrev pub decreases-rounds : goal.decreases-rounds
decreases-rounds l = suc (length (backward_numbers l.g.edges l.order.variables.now)) - l.rounds
