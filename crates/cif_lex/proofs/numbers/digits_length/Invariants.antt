use Rattle.std.{proofs.Common.{IsTrue, All, take}, specs.Char.is_ascii_digit}
use Rattle.cif_lex.proofs.numbers.digits_length.Given as goal

abbrev pub invariant-loop-i : goal.invariant-loop-i
invariant-loop-i l = All (λ b. IsTrue (is_ascii_digit b)) (take l.i l.text)
