use Rattle.std.proofs.{Common.arith, lemmas.Int.{ints, clamps}}
use Rattle.lam_geom.proofs.gaps.gap.Goals as goal

pub returns : goal.returns
returns c = omega (arith, ints, clamps)
