use Rattle.box_tree.proofs.Within.{too_far}
use Rattle.box_tree.proofs.entries.Group.may_hold.Goals as goal

pub returns-then-is_far : goal.returns-then-is_far
returns-then-is_far c = λ f entry b holds.
    let query = c.args.query.now in
    too_far query.question query.area c.args.self.now.outer entry _ c.reach_of.ensures
    (c.is_far.ensures.0 c.if-is_far.true) b.outer holds
