use Rattle.std.proofs.{Common.arith, lemmas.Int.{ints, clamps}}
use Rattle.crossings.proofs.pair_tests.common_span.Goals as goal

pub invariant_of-result : goal.invariant_of-result
invariant_of-result c = record { ordered = omega (arith, ints, clamps) }

pub returns-clause-common : goal.returns-clause-common
returns-clause-common c = record { lo = omega (arith, ints, clamps); hi = omega (arith, ints, clamps) }

pub returns-clause-placed : goal.returns-clause-placed
returns-clause-placed c = (
  (omega (arith, ints, clamps), omega (arith, ints, clamps)),
  (omega (arith, ints, clamps), omega (arith, ints, clamps)),
)
