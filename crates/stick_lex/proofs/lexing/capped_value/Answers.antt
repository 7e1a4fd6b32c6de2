use Rattle.std.proofs.Common.{ℕ, ◌+◌, ◌*◌, min, ap, ◌∙◌, arith}
use Rattle.stick_lex.proofs.Words.{capped_more}
use Rattle.stick_lex.proofs.lexing.capped_value.Goals as goal

pub loop-digit-preserved : goal.loop-digit-preserved
loop-digit-preserved c =
    let digits = c.args.digits.now in
    let more = capped_more 1000001 digits c.loop-digit.digit-index c.loop-digit.value c.requires (omega arith)
    c.loop-digit.invariant in
    c.min-value.ensures ∙ ap (λ (d : ℕ). min (c.loop-digit.value * 10 + d) 1000001) c.from.ensures ∙ more
