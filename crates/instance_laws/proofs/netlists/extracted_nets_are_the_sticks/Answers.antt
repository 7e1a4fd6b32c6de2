-- The law is the lemma on boxes that show the instances.
use Rattle.instance_laws.proofs.NetlistNets.{nets_are_the_sticks}
use Rattle.instance_laws.proofs.netlists.extracted_nets_are_the_sticks.Goals as goal

pub returns : goal.returns
returns c = λ boxes shapes. nets_are_the_sticks c.args.tech.now c.args.plan.now c.args.masters.now c.args.layouts.now
    boxes (record { planned = c.requires.planned; finished = c.requires.finished }) shapes
