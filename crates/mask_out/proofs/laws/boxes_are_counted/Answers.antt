use Rattle.mask_out.proofs.Counted.{boxes_counted}
use Rattle.mask_out.proofs.laws.boxes_are_counted.Goals as goal

pub returns : goal.returns
returns c = boxes_counted c.args.tech.now c.args.cell.now c.args.nets.now c.args.coords.now
