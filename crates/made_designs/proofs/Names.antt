-- The names of points: each is a name, and no two points have one name.
use Rattle.std.proofs.Common.{◌≡◌, ℕ, zero, suc, ◌+◌, ◌*◌, ◌/◌, ◌%◌, ◌<◌, ◌≤◌, Bool, true, false, ◌&&◌, eqb, leb, List}
use Rattle.std.proofs.{Common.{[], ◌∷◌, ◌++◌, length, refl, sym, ap, ◌∙◌, arith}, lemmas.Fmt.decimal_is_IsNumeral}
use Rattle.std.proofs.lemmas.{Fmt.{decimal_injective, length-decimal-le}, Str.Parse.digit_from_value}
use Rattle.std.proofs.lemmas.{List.{length-append, Elements.All-from_recursion, Splits.slice_split_none}, Nat.div_below}
use Rattle.std.proofs.lemmas.{Nat.{mod_below, div-add-mod'}, Bool.{le-leb, Decides.nat_tests}}
use Rattle.std.{proofs.lemmas.Slice.Eq.bytes_eq-Decides, specs.{Prelude.{decimal, bytes_eq}, Int.IsInRange}}
use Rattle.std.specs.{List.{list_all, AllByRecursion}, Char.digit_value, Str.Parse.AllDigits}
use Rattle.stick_lex.specs.Tokens.{is_name_byte, is_name, names, is_path}
use Rattle.design_gen.specs.Made.{name_at}

-- ---- digits

abbrev IsDigit : ℕ → Type 0
IsDigit b = (48 ≤ b) × (b ≤ 57)

digit_range : (b : ℕ) → digit_value b < 10 → IsDigit b
digit_range b h = let r : IsInRange 48 57 b = digit_from_value b h in (omega (arith, r), omega (arith, r))

digits_in : (ds : List ℕ) → AllDigits 10 ds → AllByRecursion IsDigit ds
digits_in [] h = tt
digits_in (d ∷ ds) h = (digit_range d h.0, digits_in ds h.1)

decimal_digits : (m : ℕ) → m < 64 → AllByRecursion IsDigit (decimal m)
decimal_digits m h = digits_in (decimal m) (decimal_is_IsNumeral m (omega (arith, h))).0.1

-- ---- a point's name is a name

name_digit : (b : ℕ) → IsDigit b → is_name_byte b ≡ true
name_digit b h = let low : 48 ≤ b = h.0 in let high : b ≤ 57 = h.1 in grind (arith, nat_tests)

both_true : (a b : Bool) → a ≡ true → b ≡ true → (a && b) ≡ true
both_true a b e f = ap (λ x. x && b) e ∙ f

name_bytes : (ds after : List ℕ) → AllByRecursion IsDigit ds → list_all is_name_byte after ≡ true
    → list_all is_name_byte (ds ++ after) ≡ true
name_bytes [] after h k = k
name_bytes (d ∷ ds) after h k =
    both_true (is_name_byte d) (list_all is_name_byte (ds ++ after)) (name_digit d h.0) (name_bytes ds after h.1 k)

digits_alone : (ds : List ℕ) → AllByRecursion IsDigit ds → list_all is_name_byte ds ≡ true
digits_alone [] h = refl
digits_alone (d ∷ ds) h = both_true (is_name_byte d) (list_all is_name_byte ds) (name_digit d h.0) (digits_alone ds h.1)

-- a point of a square of at most 64 columns and rows
pub record IsPoint (n k : ℕ) : Type 0 where
  pub few : n ≤ 64
  pub within : k < n * n

some_columns : (n k : ℕ) → IsPoint n k → 0 < n
some_columns zero k p = let none : k < 0 = p.within in absurd (omega (arith, none))
some_columns (suc n) k p = omega arith

pub col_below : (n k : ℕ) → IsPoint n k → k % n < n
col_below n k p = mod_below k n (some_columns n k p)

pub row_below : (n k : ℕ) → IsPoint n k → k / n < n
row_below n k p = div_below k n n (some_columns n k p) p.within

two_digits : (m : ℕ) → m < 64 → length (decimal m) ≤ 2
two_digits m h = length-decimal-le 2 m (omega arith) (omega (arith, h)) (omega (arith, h))

-- after its first letter
abbrev after_first : ℕ → ℕ → List ℕ
after_first n k = decimal (k % n) ++ 95 ∷ decimal (k / n)

short_name : (n k : ℕ) → IsPoint n k → length (after_first n k) ≤ 31
short_name n k p =
    omega (
      arith,
      length-append (decimal (k % n)) (95 ∷ decimal (k / n)),
      two_digits (k % n)
          (omega (arith, col_below n k p, p.few)),
      two_digits (k / n) (omega (arith, row_below n k p, p.few)),
    )

pub name_is : (n k : ℕ) → IsPoint n k → is_name (name_at n k) ≡ true
name_is n k p =
    both_true (leb (length (after_first n k)) 31) (list_all is_name_byte (after_first n k))
    (le-leb (length (after_first n k)) 31 (short_name n k p))
    (name_bytes (decimal (k % n)) (95 ∷ decimal (k / n))
    (decimal_digits (k % n) (omega (arith, col_below n k p, p.few)))
    (digits_alone (decimal (k / n)) (decimal_digits (k / n) (omega (arith, row_below n k p, p.few)))))

-- ---- it has no dot

no_dot : (b : ℕ) → IsDigit b → eqb b 46 ≡ false
no_dot b h = let low : 48 ≤ b = h.0 in grind (arith, nat_tests)

no_dots : (ds : List ℕ) → AllByRecursion IsDigit ds → AllByRecursion (λ b. eqb b 46 ≡ false) ds
no_dots [] h = tt
no_dots (d ∷ ds) h = (no_dot d h.0, no_dots ds h.1)

no_dots_then : (ds after : List ℕ) → AllByRecursion IsDigit ds → AllByRecursion (λ b. eqb b 46 ≡ false) after
    → AllByRecursion (λ b. eqb b 46 ≡ false) (ds ++ after)
no_dots_then [] after h k = k
no_dots_then (d ∷ ds) after h k = (no_dot d h.0, no_dots_then ds after h.1 k)

-- so it is a path of one name
pub one_name : (n k : ℕ) → IsPoint n k → names (name_at n k) ≡ name_at n k ∷ []
one_name n k p = slice_split_none (λ b. eqb b 46) (name_at n k)
    (All-from_recursion (λ b. eqb b 46 ≡ false) (name_at n k) (
      refl,
      no_dots_then (decimal (k % n)) (95 ∷ decimal (k / n))
          (decimal_digits (k % n) (omega (arith, col_below n k p, p.few)))
          (refl, no_dots (decimal (k / n)) (decimal_digits (k / n) (omega (arith, row_below n k p, p.few)))),
    ))

pub path_is : (n k : ℕ) → IsPoint n k → is_path (name_at n k) ≡ true
path_is n k p = ap (list_all is_name) (one_name n k p) ∙ ap (λ b. b && true) (name_is n k p)

-- ---- no two points have one

-- lists of digits that an underscore ends
cut_once : (xs us ys vs : List ℕ) → AllByRecursion IsDigit xs → AllByRecursion IsDigit us
    → xs ++ 95 ∷ ys ≡ us ++ 95 ∷ vs → (xs ≡ us) × (ys ≡ vs)
cut_once [] [] ys vs h k e = (refl, cc)
cut_once [] (u ∷ us) ys vs h k e = let same : 95 ≡ u = cc in absurd (omega (arith, same, k.0))
cut_once (x ∷ xs) [] ys vs h k e = let same : x ≡ 95 = cc in absurd (omega (arith, same, h.0))
cut_once (x ∷ xs) (u ∷ us) ys vs h k e =
    let first : x ≡ u = cc in
    let rest : xs ++ 95 ∷ ys ≡ us ++ 95 ∷ vs = cc in
    let parts = cut_once xs us ys vs h.1 k.1 rest in
    let prefix : xs ≡ us = parts.0 in
    (cc, parts.1)

pub same_point : (n j k : ℕ) → IsPoint n j → IsPoint n k → name_at n j ≡ name_at n k → j ≡ k
same_point n j k p q e =
    let after : after_first n j ≡ after_first n k = cc in
    let jc : j % n < 64 = omega (arith, col_below n j p, p.few) in
    let jr : j / n < 64 = omega (arith, row_below n j p, p.few) in
    let kc : k % n < 64 = omega (arith, col_below n k q, q.few) in
    let kr : k / n < 64 = omega (arith, row_below n k q, q.few) in
    let parts = cut_once (decimal (j % n)) (decimal (k % n)) (decimal (j / n)) (decimal (k / n))
    (decimal_digits (j % n) jc) (decimal_digits (k % n) kc) after in
    let cols : j % n ≡ k % n = decimal_injective (j % n) (k % n) (omega (arith, jc)) (omega (arith, kc)) parts.0 in
    let rows : j / n ≡ k / n = decimal_injective (j / n) (k / n) (omega (arith, jr)) (omega (arith, kr)) parts.1 in
    sym (div-add-mod' j n) ∙ ap (λ r. r * n + j % n) rows ∙ ap (λ c. k / n * n + c) cols ∙ div-add-mod' k n

pub other_name : (n j k : ℕ) → IsPoint n j → IsPoint n k → (j ≡ k → ⊥) → bytes_eq (name_at n j) (name_at n k) ≡ false
other_name n j k p q apart =
    false_where_not (bytes_eq (name_at n j) (name_at n k))
    (λ t. apart (same_point n j k p q ((bytes_eq-Decides (name_at n j) (name_at n k)).0 t)))
  where
    false_where_not : (b : Bool) → (b ≡ true → ⊥) → b ≡ false
    false_where_not true h = absurd (h refl)
    false_where_not false h = refl

pub own_name : (name : List ℕ) → bytes_eq name name ≡ true
own_name name = (bytes_eq-Decides name name).1 refl
