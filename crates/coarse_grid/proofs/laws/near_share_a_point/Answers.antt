use Rattle.coarse_grid.proofs.ItemsLaid.{near_share}
use Rattle.coarse_grid.proofs.laws.near_share_a_point.Goals as goal

pub returns : goal.returns
returns c = near_share c.args.tech.now c.args.master.now c.requires
