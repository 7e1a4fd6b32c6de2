use Rattle.std.proofs.Common.{arith}
use Rattle.stick_lex.proofs.Words.{capped_more}
use Rattle.jog_insert.proofs.naming.capped_value.Goals as goal

pub loop-digit-preserved : goal.loop-digit-preserved
loop-digit-preserved c =
    let more = capped_more 4294967295 c.args.digits.now c.loop-digit.digit-index c.loop-digit.value c.requires
    (omega arith) c.loop-digit.invariant in
    omega (arith, more)
