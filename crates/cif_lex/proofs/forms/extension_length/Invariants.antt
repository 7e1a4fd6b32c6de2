use Rattle.std.proofs.Common.{◌≢◌, All, take}
use Rattle.cif_lex.proofs.forms.extension_length.Given as goal

abbrev pub invariant-loop-i : goal.invariant-loop-i
invariant-loop-i l = All (λ b. b ≢ 59) (take l.i l.text)
