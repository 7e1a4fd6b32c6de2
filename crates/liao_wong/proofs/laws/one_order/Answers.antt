use Rattle.std.proofs.Common.{length}
use Rattle.cons_graph.specs.Solutions.{value_of}
use Rattle.liao_wong.proofs.OneOrder.{has_one_order}
use Rattle.liao_wong.proofs.laws.one_order.Goals as goal

pub returns : goal.returns
returns c = has_one_order (length c.args.x.now) (value_of c.args.x.now)
