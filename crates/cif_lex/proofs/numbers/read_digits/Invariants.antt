use Rattle.std.{proofs.Common.{◌≡◌, ◌≤◌, IsTrue, All, take}, specs.{Char.is_ascii_digit, Str.Parse.digits_value}}
use Rattle.cif_lex.proofs.numbers.read_digits.Given as goal

abbrev pub invariant-loop-i : goal.invariant-loop-i
invariant-loop-i l = record {
  digits : All (λ b. IsTrue (is_ascii_digit b)) (take l.i l.text);
  value : l.distance ≡ digits_value 10 (take l.i l.text);
  small : l.distance ≤ 1073741824;
}
