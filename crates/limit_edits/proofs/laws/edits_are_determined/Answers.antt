use Rattle.limit_edits.proofs.Designs.{edited_is_determined}
use Rattle.limit_edits.proofs.laws.edits_are_determined.Goals as goal

pub returns : goal.returns
returns c = edited_is_determined c.args.design.now c.args.masters.now c.args.edit.now c.args.new.now c.args.other.now
    c.requires.new c.requires.other
