use Rattle.bar_rows.proofs.Sharing.{shared_by_low, share_else}
use Rattle.bar_rows.proofs.bars.Contacts.share.Goals as goal

pub returns-then-has : goal.returns-then-has
returns-then-has c = (λ t. shared_by_low c.args.self c.args.other (c.has.ensures.0 t), λ _. c.if-has.true)

pub returns-else-has : goal.returns-else-has
returns-else-has c =
    share_else c.has.result c.has-else-has.result c.args.self c.args.other c.has.ensures c.has-else-has.ensures
    c.if-has.false
