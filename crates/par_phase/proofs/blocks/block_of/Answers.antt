use Rattle.par_phase.proofs.Cuts.{between}
use Rattle.par_phase.proofs.blocks.block_of.Goals as goal

pub returns : goal.returns
returns g c = between c.args.items.now c.args.blocks c.args.k _ _ c.requires c.block_start-start.ensures.start
    c.block_start-end.ensures.start
