use Rattle.slack_pack.proofs.Settled.{first_more}
use Rattle.slack_pack.proofs.moving.first_slacks.Goals as goal

pub loop-f-preserved : goal.loop-f-preserved
loop-f-preserved c = first_more c.args.vars c.args.far.now c.loop-f.slacks.items c.loop-f.f-index c.loop-f-test.true
    (c.requires.among c.loop-f.f-index 0 c.loop-f-test.true) c.loop-f.invariant
