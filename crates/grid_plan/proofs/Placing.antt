-- The places of numbers in a list of different numbers, as it grows.
use Rattle.std.proofs.Common.{◌≡◌, ℕ, suc, ◌+◌, ◌<◌, ◌≤◌, Bool, true, false, not, ◌||◌, cond, eqb, ltb, Option, Some}
use Rattle.std.proofs.Common.{None, is_some, List, [], ◌∷◌, ◌++◌, inl, inr, length, get_or, set, replicate, refl, ap}
use Rattle.std.proofs.{Common.{sym, subst, ◌∙◌, arith, length-append}, lemmas.Bool.{eq-eqb, eqb-true, lt-ltb}}
use Rattle.std.proofs.lemmas.{Bool.Decides.{eqb_tells, leb_tells, nat_tests}, List.{get_or-set_same, get_or-set_other}}
use Rattle.std.proofs.lemmas.List.{get_or-replicate, get_or_default, Folds.{position_or_len_push, Any-from_list_any}}
use Rattle.std.proofs.lemmas.{List.Sums.prefix_len-le-length, Map.Steps.length-le_from_distinct_below}
use Rattle.std.specs.List.{All, IsDistinct, list_any, position, position_or_len}
use Rattle.list_facts.proofs.Elements.{all_append}
use Rattle.grid_plan.specs.Numbered.{is_same_number}

-- ---- whether there is a place

in_cases : (b any : Bool) (at many : ℕ) → any ≡ ltb at many → (b || any) ≡ ltb (cond (not b) (1 + at) 0) (suc many)
in_cases true any at many e = sym (lt-ltb 0 (suc many) (omega arith))
in_cases false any at many e = e ∙ grind (arith, nat_tests)

pub any_place : {X : Type 0} (p : X → Bool) (xs : List X) → list_any p xs ≡ ltb (position_or_len p xs) (length xs)
any_place p [] = refl
any_place p (x ∷ xs) = in_cases (p x) (list_any p xs) (position_or_len p xs) (length xs) (any_place p xs)

no_place : (at many : ℕ) → cond (ltb at many) (Some at) None ≡ None → ltb at many ≡ false
no_place at many e =
    elim (leb_tells (suc at) many) [
      | inl within ↦
          absurd (let h : cond (ltb at many) (Some at) None ≡ Some at = ap (λ b. cond b (Some at) None) within.0 in cc)
      | inr beyond ↦ beyond.0
    ]

pub not_there : (xs : List ℕ) (k : ℕ) → position (is_same_number k) xs ≡ None → list_any (is_same_number k) xs ≡ false
not_there xs k e = any_place (is_same_number k) xs ∙ no_place _ _ e

some_place : (at many : ℕ) → is_some (cond (ltb at many) (Some at) None) ≡ true → ltb at many ≡ true
some_place at many e =
    elim (leb_tells (suc at) many) [
      | inl within ↦ within.0
      | inr beyond ↦
          absurd (let h : is_some (cond (ltb at many) (Some at) None)
          ≡ false = ap (λ b. is_some (cond b (Some at) None)) beyond.0 in cc)
    ]

pub is_there : (xs : List ℕ) (k : ℕ) → is_some (position (is_same_number k) xs) ≡ true
    → list_any (is_same_number k) xs ≡ true
is_there xs k e = any_place (is_same_number k) xs ∙ some_place _ _ e

pub none_of : (o : Option ℕ) → is_some o ≡ false → o ≡ None
none_of None e = refl
none_of (Some k) e = cc

-- ---- one more number

place_same : (q many r more : ℕ) → q ≤ many → more ≡ many + 1 → r ≡ cond (eqb q many) (many + 1) q
    → cond (ltb r more) (Some r) None ≡ cond (ltb q many) (Some q) None
place_same q many r more le e f = grind (arith, nat_tests)

place_new : (q many r more : ℕ) → q ≤ many → more ≡ many + 1 → r ≡ cond (eqb q many) (many + 0) q → ltb q many ≡ false
    → cond (ltb r more) (Some r) None ≡ Some many
place_new q many r more le e f none = grind (arith, nat_tests)

length_more : (xs : List ℕ) (y : ℕ) → length (xs ++ y ∷ []) ≡ length xs + 1
length_more xs y = length-append xs (y ∷ [])

same_after : (xs : List ℕ) (k y : ℕ) → is_same_number k y ≡ false
    → position (is_same_number k) (xs ++ y ∷ []) ≡ position (is_same_number k) xs
same_after xs k y e =
    place_same (position_or_len (is_same_number k) xs) (length xs) (position_or_len (is_same_number k) (xs ++ y ∷ []))
    (length (xs ++ y ∷ [])) (prefix_len-le-length (λ x. not (is_same_number k x)) xs)
    (length_more xs y) (position_or_len_push (is_same_number k) xs y
    ∙ ap (λ b. cond (eqb (position_or_len (is_same_number k) xs) (length xs)) (length xs + cond b 0 1)
    (position_or_len (is_same_number k) xs)) e)

new_after : (xs : List ℕ) (k : ℕ) → position (is_same_number k) xs ≡ None
    → position (is_same_number k) (xs ++ k ∷ []) ≡ Some (length xs)
new_after xs k none =
    place_new (position_or_len (is_same_number k) xs) (length xs) (position_or_len (is_same_number k) (xs ++ k ∷ []))
    (length (xs ++ k ∷ [])) (prefix_len-le-length (λ x. not (is_same_number k x)) xs)
    (length_more xs k)
    (position_or_len_push (is_same_number k) xs k
    ∙ ap (λ b. cond (eqb (position_or_len (is_same_number k) xs) (length xs)) (length xs + cond b 0 1)
    (position_or_len (is_same_number k) xs)) (eq-eqb k k refl))
    (no_place _ _ none)

-- a table of places
abbrev pub Placed : List (Option ℕ) → List ℕ → Type 0
Placed places xs = (k : ℕ) → k < 256 → get_or places k None ≡ position (is_same_number k) xs

pub placed_more : (places : List (Option ℕ)) (xs : List ℕ) (y : ℕ) → length places ≡ 256 → y < 256
    → position (is_same_number y) xs ≡ None → Placed places xs
    → Placed (set places y (Some (length xs))) (xs ++ y ∷ [])
placed_more places xs y room lt none placed = λ k lk. elim (eqb_tells k y) [
  | inl one ↦
      let P : ℕ → Type 0 = λ j. get_or (set places y (Some (length xs))) j None
      ≡ position (is_same_number j) (xs ++ y ∷ []) in
      subst P (sym one.1) (get_or-set_same places y (Some (length xs)) None (omega arith) ∙ sym (new_after xs y none))
  | inr other ↦ get_or-set_other places y k (Some (length xs)) None other.1 ∙ placed k lk
      ∙ sym (same_after xs k y other.0)
]

-- what is read of the table
pub place_read : (places : List (Option ℕ)) (xs : List ℕ) (k : ℕ) (o : Option ℕ) → length places ≡ 256 → k < 256
    → Placed places xs → o ≡ get_or places k o → o ≡ position (is_same_number k) xs
place_read places xs k o room lt placed e = e ∙ get_or_default places k o None (omega arith) ∙ placed k lt

pub none_placed : (places : List (Option ℕ)) (xs : List ℕ) → places ≡ replicate 256 None → xs ≡ [] → Placed places xs
none_placed places xs e none = λ k lk. ap (λ ps. get_or ps k None) e ∙ get_or-replicate 256 k None None lk
    ∙ ap (position (is_same_number k)) (sym none)

-- ---- numbers that differ

apart_from : (x y : ℕ) (found : List ℕ) → list_any (eqb y) (x ∷ found) ≡ false
    → (eqb x y ≡ false) × (list_any (eqb y) found ≡ false)
apart_from x y found e = (first, rest)
  where
    first : eqb x y ≡ false
    first = elim (eqb_tells y x) [
      | inl one ↦
          absurd (let h : list_any (eqb y) (x ∷ found) ≡ true = ap (λ b. b || list_any (eqb y) found) one.0 in cc)
      | inr other ↦ elim (eqb_tells x y) [ inl one ↦ absurd (other.1 (sym one.1)) | inr also ↦ also.0 ]
    ]

    rest : list_any (eqb y) found ≡ false
    rest = elim (eqb_tells y x) [
      | inl one ↦
          absurd (let h : list_any (eqb y) (x ∷ found) ≡ true = ap (λ b. b || list_any (eqb y) found) one.0 in cc)
      | inr other ↦ sym (ap (λ b. b || list_any (eqb y) found) other.0) ∙ e
    ]

pub distinct_more : (xs : List ℕ) (y : ℕ) → IsDistinct eqb xs → list_any (eqb y) xs ≡ false
    → IsDistinct eqb (xs ++ y ∷ [])
unfolding IsDistinct
distinct_more [] y d none = (tt, tt)
distinct_more (x ∷ xs) y d none =
    let parts = apart_from x y xs none in
    (all_append (λ z. eqb x z ≡ false) xs (y ∷ []) d.0 (parts.0, tt), distinct_more xs y d.1 parts.1)

pub few_distinct : (xs : List ℕ) → IsDistinct eqb xs → All (λ k. k < 256) xs → length xs ≤ 256
few_distinct xs d below =
    length-le_from_distinct_below xs 256 d (λ q there. within q (Any-from_list_any (eqb q) xs there))
  where
    within : (q : ℕ) → ((k : ℕ) × (x : ℕ) × (k < length xs) × (get_or xs k x ≡ x) × (eqb q x ≡ true)) → q < 256
    within q any =
        (let e : q ≡ any.1 = eqb-true q any.1 any.4 in let here : get_or xs any.0 any.1 < 256 = below any.0 any.1
        any.2 in omega (arith, any.3))
