use Rattle.pass_run.proofs.Leading.{made_on}
use Rattle.pass_run.proofs.least.next_layouts.Goals as goal

pub returns-in-Ok-clause-least : goal.returns-in-Ok-clause-least
returns-in-Ok-clause-least g c =
    let first = made_on c.args.axis c.in-Ok.ensures.axis c.in-Ok.ensures.made in
    (first.x, first.least, first.is, first.stays)
