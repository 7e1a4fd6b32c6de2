use Rattle.design_sizes.proofs.InText.{in_canonical}
use Rattle.design_sizes.proofs.lines_are_in_the_text.Goals as goal

pub returns : goal.returns
returns c = in_canonical c.args.design.now
