use Rattle.std.proofs.lemmas.Result.{IfOk-weaker}
use Rattle.par_phase.proofs.Answers.{answers_all}
use Rattle.cif_read.specs.Ahead.{IsPortion}
use Rattle.cif_read.proofs.ahead.portions_from.Goals as goal

pub returns : goal.returns
returns g c =
    IfOk-weaker c.map_split.result _ _ (λ portions answers.
    answers_all _ _ (IsPortion c.args.bytes.now) (λ p r says. says) c.deref.result.now portions.items answers)
    c.map_split.ensures.answers
