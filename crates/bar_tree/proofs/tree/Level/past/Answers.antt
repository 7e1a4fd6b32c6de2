use Rattle.std.proofs.Common.{◌/◌, ◌^◌, ℕ, ◌<◌, length, subst, arith}
use Rattle.std.proofs.lemmas.Nat.{pow_below}
use Rattle.bar_tree.proofs.Levels.{none_fits, node_ends, not_both}
use Rattle.bar_tree.proofs.tree.Level.past.Goals as goal

pub overflow_mul-result : goal.overflow_mul-result
overflow_mul-result c =
    let level = c.args.self.now in
    let low : 2 ^ level.shift < 2 ^ 40 = pow_below level.shift 40 c.requires.over.few in
    let ends = node_ends c.args.place level.shift level.width c.requires.over.width in
    let few = c.requires.few in
    let among = c.requires.among in
    let width = c.requires.over.width in
    omega (arith, low, ends.2, few, among, width)

pub returns-clause-after : goal.returns-clause-after
returns-clause-after c =
    let level = c.args.self.now in
    let ends = node_ends c.args.place level.shift level.width c.requires.over.width in
    omega (arith, ends.0)

pub returns-clause-none : goal.returns-clause-none
returns-clause-none c =
    let level = c.args.self.now in
    let k : ℕ = c.args.place / 2 ^ level.shift in
    let among : k < length level.nodes.items = subst (λ (w : ℕ). c.args.place / w < length level.nodes.items)
    c.requires.over.width (c.requires.over.each c.args.place c.requires.among) in
    let ends = node_ends c.args.place level.shift level.width c.requires.over.width in
    none_fits c.args.bars.now c.args.query.now level c.index.result.now k c.args.place c.requires.over c.index.ensures
    among ends.1 (λ b known f. not_both c.may_fit.result c.if-may_fit.false (c.may_fit.ensures b known f))
