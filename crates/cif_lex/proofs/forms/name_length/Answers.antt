use Rattle.std.proofs.{Common.{◌≡◌, ℕ, true, ◌∙◌, sym, arith}, lemmas.List.Elements.All-more}
use Rattle.cif_lex.specs.Words.{is_name_byte}
use Rattle.cif_lex.proofs.forms.name_length.Goals as goal

pub loop-i-preserved : goal.loop-i-preserved
loop-i-preserved c = All-more (λ (b : ℕ). is_name_byte b ≡ true) c.args.text.now c.loop-i.i 0 (omega arith)
    c.loop-i.invariant (sym c.is_name_byte.ensures ∙ c.if-not-is_name_byte.false)
