-- The names of the joints of jogs.
use Rattle.std.proofs.Common.{◌≡◌, ℕ, ◌+◌, ◌-◌, ◌<◌, ◌≤◌, true, List, [], ◌∷◌, ◌++◌, length, take, refl, sym, ap, subst}
use Rattle.std.proofs.{Common.{inl, inr, ◌∙◌, arith}, lemmas.{Bool.Decides.nat_tests, Fmt.decimal_is_IsNumeral}}
use Rattle.std.proofs.lemmas.{Fmt.length-decimal-le, List.{take_at, length-append}, Str.Parse.digit_from_value}
use Rattle.std.specs.{Prelude.{decimal, codes, ◌&&◌, nat_le}, List.{slice_range, list_all}, Char.is_ascii_digit}
use Rattle.std.specs.{Char.digit_value, Str.Parse.{AllDigits, digits_value}, Int.IsInRange}
use Rattle.stick_lex.specs.Tokens.{is_name_byte, is_numeral}
use Rattle.stick_text.specs.Writable.{IsName}
use Rattle.jog_insert.specs.{Jogs.{joint_name, lower_name, upper_name}, Building.IsNameOf}

-- ---- digits

digit_passes : (c : ℕ) → digit_value c < 10 → is_ascii_digit c ≡ true
digit_passes c h = let r : IsInRange 48 57 c = digit_from_value c h in let low : 48 ≤ c =
    omega (arith, r) in let high : c ≤ 57 = omega (arith, r) in grind (arith, nat_tests)

digit_in_name : (c : ℕ) → digit_value c < 10 → is_name_byte c ≡ true
digit_in_name c h = let r : IsInRange 48 57 c = digit_from_value c h in let low : 48 ≤ c =
    omega (arith, r) in let high : c ≤ 57 = omega (arith, r) in grind (arith, nat_tests)

digits_pass : (ds : List ℕ) → AllDigits 10 ds → list_all is_ascii_digit ds ≡ true
digits_pass [] h = refl
digits_pass (d ∷ ds) h = ap (λ b. b && list_all is_ascii_digit ds) (digit_passes d h.0) ∙ digits_pass ds h.1

digits_in_name : (ds letter : List ℕ) → AllDigits 10 ds → list_all is_name_byte letter ≡ true
    → list_all is_name_byte (ds ++ letter) ≡ true
digits_in_name [] letter h k = k
digits_in_name (d ∷ ds) letter h k = ap (λ b. b && list_all is_name_byte (ds ++ letter)) (digit_in_name d h.0)
    ∙ digits_in_name ds letter h.1 k

numeral : (ds : List ℕ) → 0 < length ds → AllDigits 10 ds → is_numeral ds ≡ true
numeral [] some h = absurd (omega arith)
numeral (d ∷ ds) some h = digits_pass (d ∷ ds) h

pub numeral_of : (n : ℕ) → n < 4294967296 → is_numeral (decimal n) ≡ true
numeral_of n h = let d = decimal_is_IsNumeral n (omega arith) in numeral (decimal n) d.0.0 d.0.1

pub value_of_numeral : (n : ℕ) → n < 4294967296 → digits_value 10 (decimal n) ≡ n
value_of_numeral n h = (decimal_is_IsNumeral n (omega arith)).1

-- ---- the name of a joint

-- the digits are what stands between the first three bytes and the last one
middle_of_joint : (n letter : ℕ) → (4 ≤ length (joint_name n (letter ∷ [])))
    × (slice_range (joint_name n (letter ∷ [])) 3 (length (joint_name n (letter ∷ [])) - 1) ≡ decimal n)
middle_of_joint n letter =
    let rest : List ℕ = decimal n ++ letter ∷ [] in
    let long : length rest ≡ length (decimal n) + 1 = length-append (decimal n) (letter ∷ []) in
    let size : length (joint_name n (letter ∷ [])) ≡ length rest + 3 = omega arith in
    let part : length (joint_name n (letter ∷ [])) - 1 - 3 ≡ length (decimal n) = omega arith in
    (omega arith, ap (λ k. take k rest) part ∙ take_at (decimal n) (letter ∷ []) (length (decimal n)) refl)

pub middle_of_name : (n : ℕ) (name : List ℕ) → IsNameOf n name
    → (4 ≤ length name) × (slice_range name 3 (length name - 1) ≡ decimal n)
middle_of_name n name (inl e) =
    let P : List ℕ → Type 0 = λ l. (4 ≤ length l)
    × (slice_range l 3 (length l - 1) ≡ decimal n) in subst P (sym e) (middle_of_joint n 97)
middle_of_name n name (inr e) =
    let P : List ℕ → Type 0 = λ l. (4 ≤ length l)
    × (slice_range l 3 (length l - 1) ≡ decimal n) in subst P (sym e) (middle_of_joint n 98)

-- it is a name
name_of_parts : (ds letter : List ℕ) → AllDigits 10 ds → length (ds ++ letter) ≤ 28
    → list_all is_name_byte letter ≡ true → IsName (codes "jog" ++ (ds ++ letter))
name_of_parts ds letter h few k =
    let short : nat_le (length (111 ∷ 103 ∷ (ds ++ letter))) 31 ≡ true = grind (arith, nat_tests) in
    ap (λ b. b && list_all is_name_byte (111 ∷ 103 ∷ (ds ++ letter))) short ∙ digits_in_name ds letter h k

pub lower_is_name : (n : ℕ) → n < 4294967296 → IsName (lower_name n)
lower_is_name n h =
    name_of_parts (decimal n) (codes "a") (decimal_is_IsNumeral n (omega arith)).0.1
    (omega (
      arith,
      length-append (decimal n) (codes "a"),
      length-decimal-le 10 n (omega arith) (omega arith)
          (omega arith),
    )) refl

pub upper_is_name : (n : ℕ) → n < 4294967296 → IsName (upper_name n)
upper_is_name n h =
    name_of_parts (decimal n) (codes "b") (decimal_is_IsNumeral n (omega arith)).0.1
    (omega (
      arith,
      length-append (decimal n) (codes "b"),
      length-decimal-le 10 n (omega arith) (omega arith)
          (omega arith),
    )) refl
