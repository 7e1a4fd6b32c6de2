use Rattle.std.proofs.{Common.arith, lemmas.Int.{ints, clamps}}
use Rattle.box_tree.proofs.bounds.spanning.Goals as goal

pub returns-clause-placed : goal.returns-clause-placed
returns-clause-placed c = (
  (omega (arith, ints, clamps), omega (arith, ints, clamps)),
  (omega (arith, ints, clamps), omega (arith, ints, clamps)),
)
