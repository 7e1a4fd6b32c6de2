use Rattle.design_sizes.proofs.Short.{names_are_short}
use Rattle.design_sizes.proofs.cell_names_are_short.Goals as goal

pub returns : goal.returns
returns c = names_are_short c.args.design.now c.requires
