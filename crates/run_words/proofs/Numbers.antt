-- A number of nine digits at most fits.
use Rattle.std.proofs.Common.{◌≡◌, ◌<◌, ◌≤◌, ◌&&◌, ℕ, true, arith, rules, List, length, Result, Ok}
use Rattle.std.proofs.lemmas.Str.Parse.{IsNumeralModel, digits_value_short, numerals_by_value, parse_gives}
use Rattle.std.{proofs.lemmas.Bool.Decides.nat_tests, specs.{Prelude.{◌^◌, nat_le}, Char.is_ascii_digit, List.list_all}}
use Rattle.std.specs.Str.Parse.{ParsesUnsigned, digits_value}
use Rattle.clap.proofs.WalkLemmas.{both}
use Rattle.run_words.specs.Values.{is_number}

own : IsNumeralModel (λ ds. list_all is_ascii_digit ds ≡ true) (digits_value 10)
own = numerals_by_value _ (search rules)

-- the parse of a number does not fail
pub parsed : {E : Type 0} (most : ℕ) (w : List ℕ) (r : Result ℕ E) → ParsesUnsigned 32 10 w r → most ≤ 9
    → is_number most w ≡ true → r ≡ Ok (digits_value 10 w)
parsed most w r h within number =
    let parts = both (nat_le 1 (length w)) (nat_le (length w) most && list_all is_ascii_digit w) number in
    let digits = both (nat_le (length w) most) (list_all is_ascii_digit w) parts.1 in
    let some : 0 < length w = grind (arith, nat_tests, parts.0) in
    let few : length w ≤ most = grind (arith, nat_tests, digits.0) in
    let small : digits_value 10 w < 10 ^ 9 = digits_value_short own w 9 digits.1 (omega (arith, few, within)) in
    parse_gives own 32 w r h digits.1 some (omega arith)
