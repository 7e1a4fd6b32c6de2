use Rattle.std.proofs.{Common.refl, lemmas.Result.IfOk-weaker}
use Rattle.pass_run.proofs.passes.passes_with_greatest.Goals as goal

pub returns-clause-greatest_values : goal.returns-clause-greatest_values
returns-clause-greatest_values g c =
    IfOk-weaker c.passes_on.result _ _ (λ p greatest_values. greatest_values refl) c.passes_on.ensures.greatest_values

pub returns-clause-tight : goal.returns-clause-tight
returns-clause-tight g c = IfOk-weaker c.passes_on.result _ _ (λ p tight. tight refl) c.passes_on.ensures.tight
