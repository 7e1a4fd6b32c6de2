use Rattle.std.proofs.Common.{◌∙◌}
use Rattle.pass_run.proofs.Lists.{both_if_ok}
use Rattle.pass_run.proofs.ready.order_along.Goals as goal

pub returns : goal.returns
returns c =
    let is = c.deref.ensures.value ∙ c.in_ok-values.ensures in
    both_if_ok c.sort_order.result _ _ _ (λ order names sorted. record
    { names = rw is at names; in_order = rw is at sorted })
    c.sort_order.ensures.names c.sort_order.ensures.in_order
