use Rattle.jog_insert.proofs.Determined.{jogged_is_determined}
use Rattle.jog_insert.proofs.laws.jogs_are_determined.Goals as goal

pub returns : goal.returns
returns c =
    jogged_is_determined c.args.design.now c.args.content.now c.args.masters.now c.args.cell c.args.k c.args.r
    c.args.left c.args.new.now c.args.other.now c.requires.new c.requires.other
