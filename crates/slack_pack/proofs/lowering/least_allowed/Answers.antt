use Rattle.std.proofs.Common.{ℕ, ◌+◌, sym, subst}
use Rattle.cons_graph.specs.Solutions.{value_of}
use Rattle.slack_pack.{specs.Slacks.IsLeastAllowed, proofs.Least.least_more}
use Rattle.slack_pack.proofs.lowering.least_allowed.Goals as goal

pub loop-k-preserved : goal.loop-k-preserved
loop-k-preserved c =
    let P : ℕ → Type 0 = λ b. IsLeastAllowed c.args.edges.now (value_of c.args.x.now) c.args.slacks.now
    c.args.numbers.now (c.loop-k.k-index + 1) c.args.start b in
    subst P (sym c.min-least.ensures)
    (least_more c.args.edges.now (value_of c.args.x.now) c.args.slacks.now c.args.numbers.now c.loop-k.k-index
    c.args.start c.loop-k.least c.allowance.result c.requires.start c.loop-k.invariant c.allowance.ensures.allows
    c.allowance.ensures.grants)
