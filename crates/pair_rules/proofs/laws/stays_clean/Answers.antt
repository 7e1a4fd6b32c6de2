use Rattle.pair_rules.proofs.Staying.{stays_clean}
use Rattle.pair_rules.proofs.laws.stays_clean.Goals as goal

pub returns : goal.returns
returns c = stays_clean c.args.axis c.args.tech.now c.args.coords.now c.args.items.now
