use Rattle.rule_table.proofs.Sound.{sound}
use Rattle.rule_table.proofs.technology.Tech.numbers.Goals as goal

pub returns-clause-sound : goal.returns-clause-sound
returns-clause-sound c = sound _ c.args.self.now.sound
