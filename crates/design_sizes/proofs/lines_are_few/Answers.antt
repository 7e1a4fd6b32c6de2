use Rattle.design_sizes.proofs.Counted.{few_lines}
use Rattle.design_sizes.proofs.lines_are_few.Goals as goal

pub returns : goal.returns
returns c = few_lines c.args.text.now c.args.design.now c.requires
