-- The value of digits, digit by digit, and past the limit.
use Rattle.std.proofs.Common.{◌≡◌, ℕ, ◌+◌, ◌*◌, ◌-◌, ◌<◌, ◌≤◌, true, min, List, length, get_or, take, ap, arith}
use Rattle.std.proofs.lemmas.{Int.Digits.digits_value_more, Str.{digit_value_digit, Parse.digits_value-take-le}}
use Rattle.std.proofs.lemmas.{List.take-take, Bool.Decides.nat_tests}
use Rattle.std.specs.{Char.{is_ascii_digit, digit_value}, Int.IsInRange, Str.Parse.digits_value}

in_range : (c : ℕ) → is_ascii_digit c ≡ true → IsInRange 48 57 c
in_range c h = grind (arith, nat_tests)

-- with one digit more
pub value_more : (text : List ℕ) (i value : ℕ) → is_ascii_digit (get_or text i 0) ≡ true → i < length text
    → value ≡ digits_value 10 (take i text)
    → value * 10 + (get_or text i 0 - 48) ≡ digits_value 10 (take (i + 1) text)
value_more text i value is lt so_far =
    let d = in_range (get_or text i 0) is in
    let digit : digit_value (get_or text i 0) + 48 ≡ get_or text i 0 = digit_value_digit (get_or text i 0) d in
    let more = digits_value_more 10 text i lt in
    omega (arith, digit, more, so_far)

-- where digits are past the limit, so are more of them
pub past_limit : (top : ℕ) (text : List ℕ) (i j : ℕ) → i ≤ j → top ≤ digits_value 10 (take i text)
    → top ≡ min (digits_value 10 (take j text)) top
past_limit top text i j le past =
    let shorter = digits_value-take-le 10 (take j text) i (omega arith) in
    let same : take i (take j text) ≡ take i text = take-take i j text le in
    let more : top ≤ digits_value 10 (take j text) =
    omega (arith, past, shorter, ap (digits_value 10) same) in
    omega (arith, more)
