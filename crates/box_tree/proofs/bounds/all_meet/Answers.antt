use Rattle.std.proofs.{Common.{arith}, lemmas.Int.{ints}}
use Rattle.box_tree.proofs.Within.{meets}
use Rattle.box_tree.proofs.bounds.all_meet.Goals as goal

pub returns-then-ends-span : goal.returns-then-ends-span
returns-then-ends-span c = λ t own r. meets c.args.ends c.args.span own (grind (arith, ints, c.if-ends-span.true))
    (grind (arith, ints, t)) r

pub returns-else-ends-span : goal.returns-else-ends-span
returns-else-ends-span c = λ t. (let f = c.if-ends-span.false in let no : ⊥ = cc in absurd no)
