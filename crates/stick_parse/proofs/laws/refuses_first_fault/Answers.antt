use Rattle.stick_parse.proofs.Faults.{first_fault, fault_told}
use Rattle.stick_parse.proofs.laws.refuses_first_fault.Goals as goal

pub returns : goal.returns
returns c = record { first = first_fault c.args.text.now; refused = fault_told c.args.text.now }
