use Rattle.round_log.proofs.Implied.{cycles_alike}
use Rattle.round_log.proofs.laws.implied_edges_change_no_cycle.Goals as goal

pub returns : goal.returns
returns c = cycles_alike c.args.some.now c.args.all.now
