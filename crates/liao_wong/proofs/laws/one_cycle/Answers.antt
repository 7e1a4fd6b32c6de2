use Rattle.liao_wong.proofs.OneOrder.{has_one_cycle}
use Rattle.liao_wong.proofs.laws.one_cycle.Goals as goal

pub returns : goal.returns
returns c = has_one_cycle c.args.edges.now c.args.order.now
