use Rattle.std.proofs.{Common.arith, lemmas.Int.ints}
use Rattle.flat_check.proofs.pairs.all_pass.Goals as goal

pub returns-then-ends-margin : goal.returns-then-ends-margin
returns-then-ends-margin c = (λ t. (omega (arith, ints), grind (arith, ints)), λ h. grind (arith, ints, h.0, h.1))
