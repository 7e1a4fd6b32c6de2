use Rattle.stick_text.proofs.Shapes.{design_said, design_read}
use Rattle.stick_parse.proofs.laws.reads_what_is_said.Goals as goal

pub returns : goal.returns
returns c = record { said = design_said c.args.text.now; read = design_read c.args.text.now }
