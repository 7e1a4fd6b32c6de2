use Rattle.limit_edits.proofs.Alone.{alone}
use Rattle.limit_edits.proofs.laws.edits_are_at_fault_alone.Goals as goal

pub returns : goal.returns
returns c = alone c.args.tech.now c.args.design.now c.args.masters.now c.args.edit.now c.args.new.now c.requires
