use Rattle.design_nets.proofs.OneText.{text_determined}
use Rattle.design_nets.proofs.laws.named_text_is_determined.Goals as goal

pub returns : goal.returns
returns c = text_determined c.args.tech.now c.args.plan.now c.args.masters.now c.requires.planned
