use Rattle.pass_run.proofs.pass.one_pass.Goals as goal

pub pass_in_order-requires-clause-order : goal.pass_in_order-requires-clause-order
pass_in_order-requires-clause-order g c = rw c.deref.ensures.value c.in_ok-order.ensures.order
