use Rattle.stick_text.proofs.Shapes.{read_is_writable}
use Rattle.stick_parse.proofs.Faults.{tells}
use Rattle.stick_parse.proofs.parsing.parse.Goals as goal

pub returns-clause-writable : goal.returns-clause-writable
returns-clause-writable g c = read_is_writable c.args.text.now c.design_of.result c.design_of.ensures

pub returns-clause-says : goal.returns-clause-says
returns-clause-says g c = tells c.args.text.now c.design_of.result c.design_of.ensures
