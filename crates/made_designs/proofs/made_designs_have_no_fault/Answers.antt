use Rattle.made_designs.proofs.{Checked.design_accepted, Written.{is_writable, said}}
use Rattle.made_designs.proofs.made_designs_have_no_fault.Goals as goal

pub returns : goal.returns
returns c = record {
  said = said c.args.n c.requires;
  writable = is_writable c.args.n c.requires;
  checked = λ tech. design_accepted tech c.args.n c.requires;
}
