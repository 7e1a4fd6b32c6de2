use Rattle.std.proofs.Common.{◌∙◌}
use Rattle.cif_read.proofs.{Scales.seen_scaled, Sound.twice_back}
use Rattle.cif_read.proofs.state.Drawing.in_grains.Goals as goal

pub returns-clause-value : goal.returns-clause-value
returns-clause-value c =
    let s = c.args.self.now.scale in
    let scale = c.requires.scale in
    twice_back c.scaled.result _ c.scaled.ensures.near
    (c.scaled.ensures.value ∙ seen_scaled s.above s.below c.args.n scale.above scale.below c.ranges.n)
