use Rattle.std.proofs.{Common.{◌≡◌, ℕ, true, ◌∙◌, sym, arith}, lemmas.List.Elements.All-more}
use Rattle.std.specs.Char.{is_ascii_digit}
use Rattle.cif_lex.proofs.numbers.digits_length.Goals as goal

pub loop-i-preserved : goal.loop-i-preserved
loop-i-preserved c = All-more (λ (b : ℕ). is_ascii_digit b ≡ true) c.args.text.now c.loop-i.i 0 (omega arith)
    c.loop-i.invariant (sym c.is_ascii_digit.ensures.value ∙ c.if-not-is_ascii_digit.false)
