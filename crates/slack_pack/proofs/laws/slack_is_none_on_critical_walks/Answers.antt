use Rattle.slack_pack.proofs.Walks.{stands}
use Rattle.slack_pack.proofs.laws.slack_is_none_on_critical_walks.Goals as goal

pub returns : goal.returns
returns c = stands c.args.vars c.args.edges.now c.args.far.now
