use Rattle.std.proofs.Common.{IsTrue, All, take}
use Rattle.cif_lex.specs.Words.{is_name_byte}
use Rattle.cif_lex.proofs.forms.name_length.Given as goal

abbrev pub invariant-loop-i : goal.invariant-loop-i
invariant-loop-i l = All (λ b. IsTrue (is_name_byte b)) (take l.i l.text)
