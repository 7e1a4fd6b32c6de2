use Rattle.liao_wong.proofs.OneAnswer.{has_one_answer, whole_log_tells}
use Rattle.liao_wong.proofs.laws.one_answer.Goals as goal

pub returns-clause-one : goal.returns-clause-one
returns-clause-one c = has_one_answer (record { vars = c.args.vars; edges = c.args.edges.now }) c.args.order.now

pub returns-clause-whole : goal.returns-clause-whole
returns-clause-whole c = whole_log_tells (record { vars = c.args.vars; edges = c.args.edges.now }) c.args.order.now
    c.requires.shape c.requires.names
