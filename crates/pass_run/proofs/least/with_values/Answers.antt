use Rattle.std.proofs.lemmas.Result.{IfOk-weaker}
use Rattle.pass_run.proofs.Leading.{stay_settled}
use Rattle.pass_run.proofs.least.with_values.Goals as goal

pub returns-clause-settled : goal.returns-clause-settled
returns-clause-settled c =
    IfOk-weaker c.with_parts.result _ _
    (λ layouts is. stay_settled layouts.items c.requires.planned c.masters_are_lawful.ensures c.requires.laid
    c.requires.least c.requires.small is)
    c.with_parts.ensures
