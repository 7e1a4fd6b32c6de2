-- What is printed as a word is that word again.
use Rattle.std.proofs.Common.{◌≡◌, ℕ, suc, ◌<◌, ◌≤◌, ◌^◌, ℤ, pos, negsuc, Bool, true, false, ◌&&◌, cond, eqb, leb, List}
use Rattle.std.proofs.Common.{[], ◌∷◌, ◌++◌, length, Ok, refl, ap, subst, ◌∙◌, arith, codes, lit<, lit≤}
use Rattle.std.proofs.lemmas.{Fmt.decimal_is_IsNumeral, Str.Parse.digit_from_value, List.Elements.All-from_recursion}
use Rattle.std.proofs.lemmas.{List.Splits.{slice_split_none, join_with_byte-slice_split}, Bool.le-leb}
use Rattle.std.{proofs.lemmas.Bool.Decides.nat_tests, specs.{Prelude.{decimal, IsTrue}, Fmt.signed_decimal}}
use Rattle.std.specs.{Int.IsInRange, List.{slice_split, list_all, join_with_byte, AllByRecursion}}
use Rattle.std.specs.{Char.{is_ascii_alphabetic, is_ascii_digit, digit_value}, Str.Parse.{AllDigits, digits_value}}
use Rattle.stick_lex.specs.declared.token.TokenKind.TheVariants as kinds
use Rattle.stick_lex.specs.Tokens.{is_name_byte, is_name, names, is_path, is_numeral, is_minus, digits_of_number}
use Rattle.stick_lex.specs.{Tokens.{is_number, magnitude, value_of, spanning, token_of}, Numbers.IsNumber}
use Rattle.stick_text.specs.Words.{Path, Number, AtMost, AtLeast}
use Rattle.stick_print.proofs.Split.{IsPlain, Says}

-- ---- names and paths

and_true : (a b : Bool) → (a && b) ≡ true → (a ≡ true) × (b ≡ true)
and_true true b e = (refl, e)
and_true false b e = absurd cc

letter_plain : (b : ℕ) → is_ascii_alphabetic b ≡ true → 65 ≤ b
letter_plain b h = grind (arith, nat_tests)

-- past the dot, and so past the minus
byte_plain : (b : ℕ) → is_name_byte b ≡ true → 47 ≤ b
byte_plain b h = grind (arith, nat_tests)

rest_past : (bs : List ℕ) → list_all is_name_byte bs ≡ true → AllByRecursion (λ b. 47 ≤ b) bs
rest_past [] h = tt
rest_past (b ∷ bs) h = let p =
    and_true (is_name_byte b) (list_all is_name_byte bs) h in (byte_plain b p.0, rest_past bs p.1)

name_past : (w : List ℕ) → is_name w ≡ true → AllByRecursion (λ b. 47 ≤ b) w
name_past [] h = absurd cc
name_past (b ∷ bs) h =
    let p = and_true (is_ascii_alphabetic b) (leb (length bs) 31 && list_all is_name_byte bs) h in
    let q = and_true (leb (length bs) 31) (list_all is_name_byte bs) p.1 in
    (omega (arith, letter_plain b p.0), rest_past bs q.1)

plain_past : (w : List ℕ) → AllByRecursion (λ b. 47 ≤ b) w → AllByRecursion IsPlain w
plain_past [] h = tt
plain_past (b ∷ bs) h = (omega (arith, h.0), plain_past bs h.1)

plain_append : (xs ys : List ℕ) → AllByRecursion IsPlain xs → AllByRecursion IsPlain ys
    → AllByRecursion IsPlain (xs ++ ys)
plain_append [] ys h k = k
plain_append (x ∷ xs) ys h k = (h.0, plain_append xs ys h.1 k)

plain_joined : (parts : List (List ℕ)) → list_all is_name parts ≡ true
    → AllByRecursion IsPlain (join_with_byte 46 parts)
plain_joined [] h = tt
plain_joined (w ∷ []) h = plain_past w (name_past w (and_true (is_name w) true h).0)
plain_joined (w ∷ v ∷ ws) h =
    let p = and_true (is_name w) (list_all is_name (v ∷ ws)) h in
    plain_append w (46 ∷ join_with_byte 46 (v ∷ ws)) (plain_past w (name_past w p.0))
    (lit≤ tt, plain_joined (v ∷ ws) p.1)

path_plain : (w : List ℕ) → is_path w ≡ true → AllByRecursion IsPlain w
path_plain w h = subst (AllByRecursion IsPlain) (join_with_byte-slice_split 46 w) (plain_joined (names w) h)

no_dot : (b : ℕ) → 47 ≤ b → eqb b 46 ≡ false
no_dot b h = grind (arith, nat_tests)

no_dots : (w : List ℕ) → AllByRecursion (λ b. 47 ≤ b) w → AllByRecursion (λ b. eqb b 46 ≡ false) w
no_dots [] h = tt
no_dots (b ∷ bs) h = (no_dot b h.0, no_dots bs h.1)

one_name : (w : List ℕ) → AllByRecursion (λ b. eqb b 46 ≡ false) w → names w ≡ w ∷ []
one_name w h = slice_split_none (λ b. eqb b 46) w (All-from_recursion (λ b. eqb b 46 ≡ false) w h)

pub name_is_path : (w : List ℕ) → is_name w ≡ true → is_path w ≡ true
name_is_path w h = ap (list_all is_name) (one_name w (no_dots w (name_past w h))) ∙ ap (λ b. b && true) h

path_some : (w : List ℕ) → is_path w ≡ true → 0 < length w
path_some [] h = absurd cc
path_some (b ∷ bs) h = omega arith

pub first_branch : {A : Type 0} (b : Bool) (x y : A) → b ≡ true → cond b x y ≡ x
first_branch true x y e = refl
first_branch false x y e = absurd cc

path_token : (w : List ℕ) → is_path w ≡ true → (lo : ℕ)
    → token_of (record { lo = lo; text = w }) ≡ Ok (spanning kinds.Path (pos 0) (record { lo = lo; text = w }))
unfolding token_of
path_token w h lo = first_branch (is_path w) _ _ h

pub says_path : (w : List ℕ) → is_path w ≡ true → Says w (Path w)
says_path w h =
    record {
      some = path_some w h;
      plain = path_plain w h;
      kind = kinds.Path;
      value = pos 0;
      token = path_token w h;
      said = refl;
    }

pub says_name : (w : List ℕ) → is_name w ≡ true → Says w (Path w)
says_name w h = says_path w (name_is_path w h)

-- ---- numbers

pick : {A : Type 0} (a b m : Bool) (x y z w : A) → a ≡ false → b ≡ true → m ≡ true
    → cond a x (cond b (cond m y z) w) ≡ y
pick false true true x y z w p q r = refl
pick true b m x y z w p q r = absurd cc
pick false false m x y z w p q r = absurd cc
pick false true false x y z w p q r = absurd cc

number_of_text : (text : List ℕ) (v : ℤ) → is_path text ≡ false → is_number text ≡ true → magnitude text ≤ 1000000
    → value_of text ≡ v → (lo : ℕ) → token_of (record { lo = lo; text = text })
    ≡ Ok (spanning kinds.Number v (record { lo = lo; text = text }))
unfolding token_of
number_of_text text v path number small value lo =
    pick (is_path text) (is_number text) (leb (magnitude text) 1000000) _ _ _ _ path number
    (le-leb (magnitude text) 1000000 small)
    ∙ ap (λ (x : ℤ). Ok (spanning kinds.Number x (record { lo = lo; text = text }))) value

digit_range : (c : ℕ) → digit_value c < 10 → (48 ≤ c) × (c ≤ 57)
digit_range c h = let r : IsInRange 48 57 c = digit_from_value c h in (omega (arith, r), omega (arith, r))

digits_past : (ds : List ℕ) → AllDigits 10 ds → AllByRecursion (λ b. 47 ≤ b) ds
digits_past [] h = tt
digits_past (d ∷ ds) h = (omega (arith, (digit_range d h.0).0), digits_past ds h.1)

is_digit : (c : ℕ) → digit_value c < 10 → is_ascii_digit c ≡ true
is_digit c h = let r = digit_range c h in let low : 48 ≤ c = r.0 in let high : c ≤ 57 = r.1 in grind (arith, nat_tests)

digits_pass : (ds : List ℕ) → AllDigits 10 ds → list_all is_ascii_digit ds ≡ true
digits_pass [] h = refl
digits_pass (d ∷ ds) h = ap (λ b. b && list_all is_ascii_digit ds) (is_digit d h.0) ∙ digits_pass ds h.1

no_letter : (c : ℕ) → c ≤ 57 → is_ascii_alphabetic c ≡ false
no_letter c h = grind (arith, nat_tests)

no_name : (c : ℕ) (cs : List ℕ) → c ≤ 57 → is_name (c ∷ cs) ≡ false
no_name c cs h = ap (λ b. b && (leb (length cs) 31 && list_all is_name_byte cs)) (no_letter c h)

no_path : (c : ℕ) (cs : List ℕ) → c ≤ 57 → AllByRecursion (λ b. eqb b 46 ≡ false) (c ∷ cs) → is_path (c ∷ cs) ≡ false
no_path c cs h dots = ap (list_all is_name) (one_name (c ∷ cs) dots) ∙ ap (λ b. b && true) (no_name c cs h)

no_minus : (c : ℕ) → 48 ≤ c → is_minus c ≡ false
no_minus c h = grind (arith, nat_tests)

pub else_branch : {A : Type 0} (b : Bool) (x y : A) → b ≡ false → cond b x y ≡ y
else_branch true x y e = absurd cc
else_branch false x y e = refl

pub says_digits : (ds : List ℕ) (n : ℕ) → 0 < length ds → AllDigits 10 ds → digits_value 10 ds ≡ n → n ≤ 1000000
    → Says ds (Number (pos n))
says_digits [] n some all value small = absurd (omega arith)
says_digits (d ∷ ds) n some all value small =
    let range = digit_range d all.0 in
    let past = digits_past (d ∷ ds) all in
    let same : digits_of_number (d ∷ ds) ≡ d ∷ ds = else_branch (is_minus d) ds (d ∷ ds) (no_minus d range.0) in
    let size : magnitude (d ∷ ds) ≡ n = ap (digits_value 10) same ∙ value in
    record {
      some = some;
      plain = plain_past (d ∷ ds) past;
      kind = kinds.Number;
      value = pos n;
      token = number_of_text (d ∷ ds) (pos n) (no_path d ds range.1 (no_dots (d ∷ ds) past))
          (ap is_numeral same ∙ digits_pass (d ∷ ds) all) (omega (arith, size))
          (else_branch (is_minus d) _ (pos (magnitude (d ∷ ds))) (no_minus d range.0) ∙ ap (λ (k : ℕ). pos k) size);
      said = refl;
    }

small_power : (n : ℕ) → n ≤ 1000000 → n < 2 ^ 64
small_power n h = omega arith

pub says_count : (n : ℕ) → n ≤ 1000000 → Says (decimal n) (Number (pos n))
says_count n small =
    let d = decimal_is_IsNumeral n (small_power n small) in
    says_digits (decimal n) n d.0.0 d.0.1 d.1 small

says_negative : (ds : List ℕ) (m : ℕ) → 0 < length ds → AllDigits 10 ds → digits_value 10 ds ≡ suc m → m < 1000000
    → Says (45 ∷ ds) (Number (negsuc m))
says_negative [] m some all value small = absurd (omega arith)
says_negative (d ∷ ds) m some all value small = record {
  some = omega arith;
  plain = (lit≤ tt, plain_past (d ∷ ds) (digits_past (d ∷ ds) all));
  kind = kinds.Number;
  value = negsuc m;
  token = number_of_text (45 ∷ d ∷ ds) (negsuc m)
      (no_path 45 (d ∷ ds) (lit≤ tt) (refl, no_dots (d ∷ ds) (digits_past (d ∷ ds) all))) (digits_pass (d ∷ ds) all)
      (omega (arith, value)) (ap (λ (k : ℕ). Rattle.std.specs.Prelude.neg_ℤ (pos k)) value);
  said = refl;
}

pub says_number : (z : ℤ) → IsNumber z → Says (signed_decimal z) (Number z)
says_number (pos n) small = says_count n small
says_number (negsuc m) small =
    let d = decimal_is_IsNumeral (suc m) (small_power (suc m) (omega arith)) in
    says_negative (decimal (suc m)) m d.0.0 d.0.1 d.1 small

-- ---- bounds

at_most_token : (lo : ℕ) → token_of (record { lo = lo; text = codes "<=" })
    ≡ Ok (spanning kinds.AtMost (pos 0) (record { lo = lo; text = codes "<=" }))
unfolding token_of
at_most_token lo = refl

at_least_token : (lo : ℕ) → token_of (record { lo = lo; text = codes ">=" })
    ≡ Ok (spanning kinds.AtLeast (pos 0) (record { lo = lo; text = codes ">=" }))
unfolding token_of
at_least_token lo = refl

pub says_at_most : Says (codes "<=") AtMost
says_at_most =
    record {
      some = lit< tt;
      plain = (lit≤ tt, (lit≤ tt, tt));
      kind = kinds.AtMost;
      value = pos 0;
      token = at_most_token;
      said = refl;
    }

pub says_at_least : Says (codes ">=") AtLeast
says_at_least =
    record {
      some = lit< tt;
      plain = (lit≤ tt, (lit≤ tt, tt));
      kind = kinds.AtLeast;
      value = pos 0;
      token = at_least_token;
      said = refl;
    }
