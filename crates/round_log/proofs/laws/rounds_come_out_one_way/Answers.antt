use Rattle.round_log.{specs.Rounds.schedule_of, proofs.OneOutcome.{one_end, one_stop}}
use Rattle.round_log.proofs.laws.rounds_come_out_one_way.Goals as goal

pub returns-clause-one_end : goal.returns-clause-one_end
returns-clause-one_end c = one_end (schedule_of c.args.edges.now c.args.order.now)

pub returns-clause-one_stop : goal.returns-clause-one_stop
returns-clause-one_stop c = one_stop (schedule_of c.args.edges.now c.args.order.now)
