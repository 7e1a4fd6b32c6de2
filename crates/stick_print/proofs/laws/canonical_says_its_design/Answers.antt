use Rattle.stick_print.proofs.Whole.{said_by_canonical}
use Rattle.stick_print.proofs.laws.canonical_says_its_design.Goals as goal

pub returns : goal.returns
returns c = said_by_canonical c.args.design.now
