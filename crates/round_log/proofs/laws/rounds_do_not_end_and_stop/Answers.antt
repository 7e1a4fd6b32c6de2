use Rattle.round_log.proofs.OneOutcome.{end_or_stop}
use Rattle.round_log.proofs.laws.rounds_do_not_end_and_stop.Goals as goal

pub returns : goal.returns
returns c = end_or_stop (record { vars = c.args.vars; edges = c.args.edges.now }) c.args.order.now c.requires.shape
    c.requires.names
