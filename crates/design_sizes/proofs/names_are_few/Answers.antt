use Rattle.design_sizes.proofs.Few.{half_as_many}
use Rattle.design_sizes.proofs.names_are_few.Goals as goal

pub returns : goal.returns
returns c = half_as_many c.args.text.now c.args.design.now c.requires
