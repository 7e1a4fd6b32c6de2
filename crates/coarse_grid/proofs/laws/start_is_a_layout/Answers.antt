use Rattle.coarse_grid.proofs.StartLaid.{start_laid}
use Rattle.coarse_grid.proofs.laws.start_is_a_layout.Goals as goal

pub returns : goal.returns
returns c = start_laid c.args.tech.now c.args.master.now c.requires
