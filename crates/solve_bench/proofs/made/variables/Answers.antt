use Rattle.std.{proofs.Common.{◌≡◌, ℕ, List, sym, ap, subst, ◌∙◌, arith}, specs.List.range_with_len}
use Rattle.round_log.specs.Orders.{IsOrder}
use Rattle.liao_wong.proofs.InOrder.{range_ends}
use Rattle.solve_bench.proofs.Reaching.{numbers_order}
use Rattle.solve_bench.proofs.made.variables.Goals as goal

pub loop-v-preserved : goal.loop-v-preserved
loop-v-preserved c = range_ends c.loop-v.v c.loop-v.order.items c.push.new.self.items c.loop-v.invariant
    c.in_ok-push.ensures.items

pub returns : goal.returns
returns c =
    let e : c.loop-v.v ≡ c.args.vars = omega arith in
    let P : List ℕ → Type 0 = IsOrder c.args.vars in
    subst P (sym (c.loop-v.invariant ∙ ap (range_with_len 0) e)) (numbers_order c.args.vars c.requires)
