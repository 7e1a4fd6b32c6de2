-- Numbers, as the code reads them.
use Rattle.std.proofs.Common.{◌≡◌, ℕ, ◌+◌, ◌<◌, ◌≤◌, ℤ, pos, negsuc, ◌-ℤ◌, Bool, true, false, cond, MatchBool, List, []}
use Rattle.std.proofs.{Common.{◌∷◌, ◌++◌, length, take, drop, refl, sym, ap, ◌∙◌, subst, arith}, lemmas.Bool.both_ways}
use Rattle.std.proofs.lemmas.{Int.{ints, to_z-of_z}, List.{take-append-drop, drop-drop, length-drop, length-take-le}}
use Rattle.std.{proofs.lemmas.List.Elements.recursion_from_All, specs.{List.All, Char.is_ascii_digit}}
use mir.Syntax.{w64}
use mir.Val.{to_z, of_z, SFits, bool_byte}
use Rattle.cif_lex.specs.{declared.numbers.Number.Number, Words.{number, capped, signed, IsNumeral, StopsAt}}
use Rattle.cif_lex.specs.{Reading.{IsSmall, IsAfterGap, IsRead, IsNumberRead, IsPairRead}, Forms.IsLedBy}
use Rattle.cif_lex.proofs.OneWord.{no_minus}

-- ---- small numbers in machine words

fits_small : (z : ℤ) → IsSmall z → SFits w64 z
fits_small (pos n) s = let h = s.high in record { sfits = omega (arith, ints, h) }
fits_small (negsuc n) s = let h = s.low in record { sfits = omega (arith, ints, h) }

pub small_back : (z : ℤ) → IsSmall z → to_z w64 (of_z w64 z) ≡ z
small_back z s = to_z-of_z w64 z (fits_small z s)

pub small_signed : (a : Bool) (n : ℕ) → n ≤ 1073741825 → IsSmall (signed a n)
small_signed true n le = record { low = omega (arith, ints); high = omega (arith, ints) }
small_signed false n le = record { low = omega (arith, ints); high = omega (arith, ints) }

pub negative_back : (d : ℕ) → d ≤ 1073741825 → to_z w64 (of_z w64 (pos 0 -ℤ to_z w64 d)) ≡ signed true d
negative_back d le = omega (arith, ints)

pub positive_back : (d : ℕ) → d ≤ 1073741825 → to_z w64 d ≡ signed false d
positive_back d le = omega (arith, ints)

-- ---- one number

-- no digit stands where one would begin
pub no_digit : (text : List ℕ) (negative : Bool) (begin : ℕ)
    → MatchBool negative (IsLedBy 45 text) (IsLedBy 45 text → ⊥) → begin ≡ bool_byte negative
    → StopsAt is_ascii_digit (drop begin text)
    → (m : ℤ) (rest : List ℕ) → IsRead (number m) text rest → ⊥
no_digit text negative begin led at stops m rest is =
    let a = is.is_spelled in
    none negative a.0 a.1 is.own is.after a.2 is.joined led
    (subst (λ (k : ℕ). StopsAt is_ascii_digit (drop k text)) at stops)
  where
    none : (negative a : Bool) (ds own after : List ℕ) → IsNumeral a ds own → text ≡ own ++ after
        → MatchBool negative (IsLedBy 45 text) (IsLedBy 45 text → ⊥)
        → StopsAt is_ascii_digit (drop (bool_byte negative) text) → ⊥
    none true true [] own after num e led stops = let h = num.some in omega arith
    none true true (d ∷ ds) own after num e led stops =
        let both : text ≡ 45 ∷ d ∷ ds ++ after = e ∙ ap (λ (t : List ℕ). t ++ after) num.spelled in
        let stop : StopsAt is_ascii_digit (d ∷ ds ++ after) =
        subst (λ (t : List ℕ). StopsAt is_ascii_digit (drop 1 t)) both stops in
        both_ways (is_ascii_digit d) stop (num.all 0 0 (omega arith))
    none true false ds own after num e led stops =
        no_minus ds after led.more num.some (recursion_from_All (λ c. is_ascii_digit c ≡ true) ds num.all)
        (sym led.begun ∙ (e ∙ ap (λ (t : List ℕ). t ++ after) num.spelled))
    none false true ds own after num e led stops =
        led (record { more = ds ++ after; begun = e ∙ ap (λ (t : List ℕ). t ++ after) num.spelled })
    none false false [] own after num e led stops = let h = num.some in omega arith
    none false false (d ∷ ds) own after num e led stops =
        let both : text ≡ d ∷ ds ++ after = e ∙ ap (λ (t : List ℕ). t ++ after) num.spelled in
        let stop : StopsAt is_ascii_digit (d ∷ ds ++ after) =
        subst (λ (t : List ℕ). StopsAt is_ascii_digit t) both stops in
        both_ways (is_ascii_digit d) stop (num.all 0 0 (omega arith))

-- what has been passed of a text, and what is left
parts : (text : List ℕ) (begin n : ℕ) → drop begin text ≡ take n (drop begin text) ++ drop (begin + n) text
parts text begin n = sym (take-append-drop n (drop begin text))
    ∙ ap (λ (t : List ℕ). take n (drop begin text) ++ t) (drop-drop n begin text)

-- so many digits stand there
pub digits_there : (text : List ℕ) (negative : Bool) (begin n passed : ℕ) (value : ℤ)
    → MatchBool negative (IsLedBy 45 text) (IsLedBy 45 text → ⊥) → begin ≡ bool_byte negative → 0 < n
    → n ≤ length (drop begin text) → All (λ b. is_ascii_digit b ≡ true) (take n (drop begin text))
    → StopsAt is_ascii_digit (drop (begin + n) text)
    → IsAfterGap (drop (begin + n) text) (drop passed (drop (begin + n) text))
    → value ≡ signed negative (capped (take n (drop begin text)))
    → IsRead (number value) text (drop (begin + n + passed) text)
digits_there text negative begin n passed value led at some le all stops gap is = record {
  own = if_minus negative;
  after = drop (begin + n) text;
  joined = joined negative led at;
  is_spelled = (
    negative,
    digits,
    record {
      some = omega (arith, length-take-le n (drop begin text) le);
      all = all;
      spelled = spelled negative;
    },
    is,
  );
  is_whole = stops;
  is_after = subst (λ (t : List ℕ). IsAfterGap (drop (begin + n) text) t) (drop-drop passed (begin + n) text) gap;
}
  where
    digits : List ℕ
    digits = take n (drop begin text)

    if_minus : Bool → List ℕ
    if_minus b = cond b (45 ∷ digits) digits

    spelled : (b : Bool) → if_minus b ≡ cond b (45 ∷ digits) digits
    spelled b = refl

    joined : (b : Bool) → MatchBool b (IsLedBy 45 text) (IsLedBy 45 text → ⊥) → begin ≡ bool_byte b
        → text ≡ if_minus b ++ drop (begin + n) text
    joined true led at = led.begun
        ∙ (ap (λ (t : List ℕ). 45 ∷ t) (sym (ap (λ (t : List ℕ). drop 1 t) led.begun)
        ∙ ap (λ (k : ℕ). drop k text) (sym at)) ∙ ap (λ (t : List ℕ). 45 ∷ t) (parts text begin n))
    joined false led at = ap (λ (k : ℕ). drop k text) (sym at) ∙ parts text begin n

pub number_there : (text : List ℕ) (negative : Bool) (begin n passed d : ℕ) (value : ℤ)
    → MatchBool negative (IsLedBy 45 text) (IsLedBy 45 text → ⊥) → begin ≡ bool_byte negative → 0 < n
    → n ≤ length (drop begin text) → All (λ b. is_ascii_digit b ≡ true) (take n (drop begin text))
    → StopsAt is_ascii_digit (drop (begin + n) text)
    → passed ≤ length (drop (begin + n) text) → IsAfterGap (drop (begin + n) text) (drop passed (drop (begin + n) text))
    → d ≡ capped (take n (drop begin text)) → d ≤ 1073741825 → value ≡ signed negative d
    → IsNumberRead text (record { value = value; length = begin + n + passed })
number_there text negative begin n passed d value led at some le all stops short gap is small e = record {
  some = omega arith;
  within = omega (arith, length-drop begin text, length-drop (begin + n) text);
  small = subst IsSmall (sym e) (small_signed negative d small);
  is_read = digits_there text negative begin n passed value led at some le all stops gap
      (e ∙ ap (λ (k : ℕ). signed negative k) is);
}

-- ---- two numbers

-- what is left after two parts
pub after_both : (text : List ℕ) (a b : ℕ) → drop b (drop a text) ≡ drop (a + b) text
after_both text a b = drop-drop b a text

pub within_both : (text : List ℕ) (a b : ℕ) → a ≤ length text → b ≤ length (drop a text) → a + b ≤ length text
within_both text a b le lt = omega (arith, length-drop a text)

pub both_read : (text : List ℕ) (a b : Number) → IsNumberRead text a → IsNumberRead (drop a.length text) b
    → IsPairRead text
    (record {
      first = to_z w64 (of_z w64 a.value);
      second = to_z w64 (of_z w64 b.value);
      length = a.length + b.length;
    })
both_read text a b is it =
    subst (λ (y : ℤ).
    IsPairRead text
    (record { first = to_z w64 (of_z w64 a.value); second = y; length = a.length + b.length })) (sym
    (small_back b.value it.small))
    (subst (λ (x : ℤ). IsPairRead text (record { first = x; second = b.value; length = a.length + b.length }))
    (sym (small_back a.value is.small)) (record {
      some = omega (arith, is.some);
      within = within_both text a.length b.length is.within it.within;
      first_small = is.small;
      second_small = it.small;
      are_read = (
        drop a.length text,
        is.is_read,
        (
          drop (a.length + b.length) text,
          subst (λ (t : List ℕ). IsRead (number b.value) (drop a.length text) t)
              (after_both text a.length b.length) it.is_read,
          refl,
        ),
      );
    }))
