-- The law is the lemma on every two items of all instances.
use Rattle.instance_laws.proofs.Apart.{all_apart}
use Rattle.instance_laws.proofs.laws.all_keep_spacing.Goals as goal

pub returns : goal.returns
returns c = all_apart c.args.tech.now c.args.plan.now c.args.masters.now c.args.layouts.now
    (record { planned = c.requires.planned; finished = c.requires.finished })
