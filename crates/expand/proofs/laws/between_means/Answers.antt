use Rattle.expand.proofs.Between.{between_means}
use Rattle.expand.proofs.laws.between_means.Goals as goal

pub returns : goal.returns
returns c = between_means c.args.low c.args.high _ c.args.why
