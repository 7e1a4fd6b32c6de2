-- The law is the lemma on conductors of one net.
use Rattle.instance_laws.proofs.ChainNets.{all_connected}
use Rattle.instance_laws.proofs.chains.nets_are_connected.Goals as goal

pub returns : goal.returns
returns c = all_connected c.args.tech.now c.args.plan.now c.args.masters.now c.args.layouts.now
    (record { planned = c.requires.planned; finished = c.requires.finished })
