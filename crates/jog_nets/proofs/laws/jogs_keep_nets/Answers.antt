use Rattle.jog_nets.proofs.Kept.{jog_kept}
use Rattle.jog_nets.proofs.laws.jogs_keep_nets.Goals as goal

pub returns : goal.returns
returns c =
    let kept = jog_kept c.args.before.now c.args.after.now c.args.masters.now c.args.cell c.args.k c.args.r
    c.args.left c.requires.resolved c.requires.resolved_again c.requires.one_technology
    c.requires.within c.requires.jogged in
    record { nets = kept.0; parts = kept.1 }
