-- Names and numbers, as the code walks them.
use Rattle.std.proofs.Common.{◌≡◌, ℕ, ◌+◌, ◌*◌, ◌-◌, ◌<◌, ◌≤◌, Bool, true, false, ◌&&◌, cond, eqb, ltb, leb, min, List}
use Rattle.std.proofs.Common.{[], ◌∷◌, length, get_or, take, drop, Some, None, unwrap_or, refl, arith}
use Rattle.std.proofs.lemmas.List.{Elements.All-get_or, Sums.{AllPass-from_list_all, prefix_len-le-length}}
use Rattle.std.proofs.lemmas.{Int.Digits.digits_value_more, Str.digit_value_digit, Bool.{le-leb, Decides.nat_tests}}
use Rattle.std.specs.{List.{list_all, position_or_len}, Char.{is_ascii_alphabetic, is_ascii_digit, digit_value}}
use Rattle.std.specs.{Int.IsInRange, Str.Parse.digits_value}
use Rattle.stick_lex.specs.Tokens.{is_name, is_name_byte, is_numeral}

-- a text that is not empty, by its first byte and the rest
pub is_name_is : (text : List ℕ) → 0 < length text
    → is_name text
    ≡ (is_ascii_alphabetic (get_or text 0 0)
    && (leb (length (drop 1 text)) 31 && list_all is_name_byte (drop 1 text)))
is_name_is [] h = absurd (omega arith)
is_name_is (b ∷ bs) h = refl

-- a text with a letter in front and at most 31 bytes after it is a name exactly where these bytes may stand in one
pub name_by_rest : (text : List ℕ) → 0 < length text → is_ascii_alphabetic (get_or text 0 0) ≡ true
    → length (drop 1 text) ≤ 31 → is_name text ≡ list_all is_name_byte (drop 1 text)
name_by_rest text some letter short = rw (is_name_is text some, letter, le-leb (length (drop 1 text)) 31 short) refl

-- a text that is not empty is a numeral exactly where its bytes are digits
pub numeral_by_all : (text : List ℕ) (empty : Bool) → empty ≡ eqb (length text) 0 → empty ≡ false
    → is_numeral text ≡ list_all is_ascii_digit text
numeral_by_all [] true e some = absurd cc
numeral_by_all [] false e some = absurd cc
numeral_by_all (b ∷ bs) empty e some = refl

pub digits_all : (text : List ℕ) → is_numeral text ≡ true → list_all is_ascii_digit text ≡ true
digits_all [] h = refl
digits_all (b ∷ bs) h = h

in_range : (c : ℕ) → is_ascii_digit c ≡ true → IsInRange 48 57 c
in_range c h = grind (arith, nat_tests)

-- each byte of a numeral is a digit
pub digit_within : (text : List ℕ) (i : ℕ) → is_numeral text ≡ true → i < length text
    → IsInRange 48 57 (get_or text i 0)
digit_within text i h lt =
    in_range (get_or text i 0)
    (All-get_or (λ c. is_ascii_digit c ≡ true) text i 0 lt
    (AllPass-from_list_all is_ascii_digit text (digits_all text h)))

-- one digit more, with the value cut off at top
pub capped_more : (top : ℕ) (text : List ℕ) (i value : ℕ) → is_numeral text ≡ true → i < length text
    → value ≡ min (digits_value 10 (take i text)) top
    → min (value * 10 + (get_or text i 0 - 48)) top ≡ min (digits_value 10 (take (i + 1) text)) top
capped_more top text i value h lt so_far =
    let d = digit_within text i h lt in
    let digit : digit_value (get_or text i 0) + 48 ≡ get_or text i 0 = digit_value_digit (get_or text i 0) d in
    let more = digits_value_more 10 text i lt in
    omega (arith, digit, more, so_far)

-- the place that `position` gives, or the length
pub position_place : {X : Type 0} (p : X → Bool) (xs : List X)
    → unwrap_or (cond (ltb (position_or_len p xs) (length xs)) (Some (position_or_len p xs)) None) (length xs)
    ≡ position_or_len p xs
position_place p xs = let le : position_or_len p xs ≤ length xs = prefix_len-le-length _ xs in grind (arith, nat_tests)
