use Rattle.std.proofs.{Common.arith, lemmas.Int.{ints, clamps}}
use Rattle.crossings.proofs.pair_tests.common_box.Goals as goal

pub common_span-requires-clause-overlap : goal.common_span-requires-clause-overlap
common_span-requires-clause-overlap c = omega (arith, ints, clamps)

pub common_span-requires-2-clause-overlap : goal.common_span-requires-2-clause-overlap
common_span-requires-2-clause-overlap c = omega (arith, ints, clamps)
