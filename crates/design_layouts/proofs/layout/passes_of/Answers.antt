use Rattle.std.proofs.lemmas.Result.{IfOk-weaker}
use Rattle.design_layouts.proofs.layout.passes_of.Goals as goal

pub returns-then-with_most-clause-greatest_values : goal.returns-then-with_most-clause-greatest_values
returns-then-with_most-clause-greatest_values g c =
    IfOk-weaker c.passes_with_greatest.result _ _ (λ p greatest_values asked. greatest_values)
    c.passes_with_greatest.ensures.greatest_values

pub returns-then-with_most-clause-tight : goal.returns-then-with_most-clause-tight
returns-then-with_most-clause-tight g c =
    IfOk-weaker c.passes_with_greatest.result _ _ (λ p tight asked. tight) c.passes_with_greatest.ensures.tight

pub returns-else-with_most-clause-greatest_values : goal.returns-else-with_most-clause-greatest_values
returns-else-with_most-clause-greatest_values g c =
    IfOk-weaker c.run_passes.result _ _ (λ p made asked. let not = c.if-with_most.false in cc)
    c.run_passes.ensures.made

pub returns-else-with_most-clause-tight : goal.returns-else-with_most-clause-tight
returns-else-with_most-clause-tight g c =
    IfOk-weaker c.run_passes.result _ _ (λ p made asked. let not = c.if-with_most.false in cc)
    c.run_passes.ensures.made
