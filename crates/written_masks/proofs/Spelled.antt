-- The numbers of a picture are written as CIF spells them, and none is past the limit.
use Rattle.std.proofs.Common.{◌≡◌, ℕ, suc, ◌^◌, ◌≤◌, ℤ, pos, negsuc, neg_ℤ, nat_lt, true, false, List, get_or, refl}
use Rattle.std.proofs.{Common.{sym, ap, arith, IsTrue, decimal}, lemmas.{Fmt.decimal_is_IsNumeral, Int.ints}}
use Rattle.std.proofs.lemmas.{List.Elements.All-from_get_or, Str.Parse.digit_at, Bool.Decides.nat_tests}
use Rattle.std.specs.{Fmt.signed_decimal, Int.IsInRange, List.All, Char.is_ascii_digit, Str.Parse.AllDigits}
use Rattle.std.specs.Str.Parse.{digits_value}
use Rattle.cif_lex.specs.{Words.{number, IsSpelled, capped}, Commands.is_far}
use Rattle.written_masks.specs.TextMeanings.{IsNumber}

digit : (c : ℕ) → IsInRange 48 57 c → is_ascii_digit c ≡ true
digit c h = grind (arith, nat_tests)

all_digits : (ds : List ℕ) → AllDigits 10 ds → All (λ b. IsTrue (is_ascii_digit b)) ds
all_digits ds h = All-from_get_or (λ b. IsTrue (is_ascii_digit b)) ds 0
    (λ i lt. digit (get_or ds i 0) (digit_at ds i h lt))

value_back : (n : ℕ) → n ≤ 2 ^ 30 → capped (decimal n) ≡ n
value_back n small = let is = decimal_is_IsNumeral n (omega (arith, small)) in let back : digits_value 10 (decimal n)
    ≡ n = is.1 in omega (arith, back, small)

pub is_spelled : (z : ℤ) → IsNumber z → IsSpelled (number z) (signed_decimal z)
is_spelled (pos n) h =
    let small : n ≤ 2 ^ 30 = omega (arith, ints, h.0, h.1) in
    let is = decimal_is_IsNumeral n (omega (arith, small)) in (
      false,
      decimal n,
      record { some = is.0.0; all = all_digits (decimal n) is.0.1; spelled = refl },
      ap pos
          (sym (value_back n small)),
    )
is_spelled (negsuc n) h =
    let small : suc n ≤ 2 ^ 30 = omega (arith, ints, h.0, h.1) in
    let is = decimal_is_IsNumeral (suc n) (omega (arith, small)) in (
      true,
      decimal (suc n),
      record { some = is.0.0; all = all_digits (decimal (suc n)) is.0.1; spelled = refl },
      ap
          (λ (m : ℕ). neg_ℤ (pos m)) (sym (value_back (suc n) small)),
    )

near : (n : ℕ) → n ≤ 2 ^ 30 → nat_lt (2 ^ 30) n ≡ false
near n h = grind (arith, nat_tests)

pub not_far : (z : ℤ) → IsNumber z → is_far z ≡ false
not_far (pos n) h = near n (omega (arith, ints, h.0, h.1))
not_far (negsuc n) h = near (suc n) (omega (arith, ints, h.0, h.1))

pub small_number : (n : ℕ) → n ≤ 2 ^ 30 → IsNumber (pos n)
small_number n h = (omega (arith, ints), omega (arith, ints, h))
