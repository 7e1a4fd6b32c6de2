use Rattle.std.{proofs.Common.{◌≡◌, true, ap, ◌∙◌, arith}, specs.{Prelude.decimal, Str.Parse.digits_value}}
use Rattle.stick_lex.specs.Tokens.{is_numeral}
use Rattle.jog_insert.proofs.JogNames.{middle_of_name, numeral_of, value_of_numeral}
use Rattle.jog_insert.proofs.naming.number_in.Goals as goal

pub returns-then-is_numeral : goal.returns-then-is_numeral
returns-then-is_numeral c n small is =
    let m = middle_of_name n c.args.name.now is in
    let digits : c.middle_of-digits.result.now ≡ decimal n = c.middle_of-digits.ensures m.0 ∙ m.1 in
    let value : digits_value 10 c.middle_of-digits.result.now ≡ n = ap (digits_value 10) digits
    ∙ value_of_numeral n (omega (arith, small)) in
    omega (arith, c.capped_value.ensures, value, small)

pub returns-else-is_numeral : goal.returns-else-is_numeral
returns-else-is_numeral c n small is =
    let m = middle_of_name n c.args.name.now is in
    let digits : c.middle_of-digits.result.now ≡ decimal n = c.middle_of-digits.ensures m.0 ∙ m.1 in
    let fits : is_numeral c.middle_of-digits.result.now ≡ true = ap is_numeral digits
    ∙ numeral_of n (omega (arith, small)) in
    absurd (cc)
