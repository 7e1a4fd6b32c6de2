use Rattle.coarse_grid.proofs.ItemsLaid.{has_boxes}
use Rattle.coarse_grid.proofs.laws.start_gives_boxes.Goals as goal

pub returns : goal.returns
returns c = has_boxes c.args.tech.now c.args.cell.now c.args.nets.now c.requires
