use Rattle.coarse_grid.proofs.ItemsLaid.{keeps_apart}
use Rattle.coarse_grid.proofs.laws.start_keeps_apart.Goals as goal

pub returns : goal.returns
returns c = keeps_apart c.args.tech.now c.args.cell.now c.args.nets.now c.requires
