use Rattle.std.proofs.{Common.refl, lemmas.Result.IfOk-weaker}
use Rattle.pass_run.proofs.passes.run_passes.Goals as goal

pub returns-clause-untold : goal.returns-clause-untold
returns-clause-untold g c = IfOk-weaker c.passes_on.result _ _ (λ p none. none refl) c.passes_on.ensures.untold
