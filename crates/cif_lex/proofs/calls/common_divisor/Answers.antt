use Rattle.std.proofs.Common.{◌∙◌}
use Rattle.cif_lex.proofs.Divisors.{euclid}
use Rattle.cif_lex.proofs.calls.common_divisor.Goals as goal

pub loop-rest-preserved : goal.loop-rest-preserved
loop-rest-preserved c = λ above below. euclid above below c.loop-rest.divisor c.loop-rest.rest
    ∙ c.loop-rest.invariant above below
