-- The law is the lemma on what the lists of a plan say of instances.
use Rattle.instance_laws.proofs.ByInstances as by
use Rattle.instance_laws.proofs.laws.instances_meet.Goals as goal

pub returns : goal.returns
returns c = by.instances_meet c.args.tech.now c.args.plan.now c.args.masters.now c.requires.planned
