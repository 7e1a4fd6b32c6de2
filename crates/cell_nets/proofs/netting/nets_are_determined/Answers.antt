use Rattle.cell_nets.proofs.Determined.{nets_same}
use Rattle.cell_nets.proofs.netting.nets_are_determined.Goals as goal

pub returns : goal.returns
returns c = nets_same
