-- Members of lists, and lists that hold nothing twice.
use Rattle.std.proofs.Common.{◌≡◌, ℕ, zero, suc, ◌+◌, ◌<◌, ◌≤◌, Bool, true, false, cond, eqb, Option, Some, None, List}
use Rattle.std.proofs.Common.{[], ◌∷◌, ◌++◌, map, ◌⊎◌, inl, inr, length, refl, sym, ap, subst, ◌∙◌, arith, eq-eqb}
use Rattle.std.proofs.lemmas.Bool.{cases_eq, ne_eqb, cond-true, cond-false, cases_Bool, cond_both, or_parts, or_cases}
use Rattle.std.{proofs.lemmas.Bool.true≢false, specs.List.{filter, list_any, range_with_len, flat_map}}
use Rattle.round_log.proofs.Chains.{In}

pub cases_option : {X : Type 0} (o : Option X) → (o ≡ None) ⊎ ((x : X) × (o ≡ Some x))
cases_option None = inl refl
cases_option (Some x) = inr (x, refl)

-- ---- members

pub In-append-left : {X : Type 0} (x : X) (xs ys : List X) → In x xs → In x (xs ++ ys)
In-append-left x [] ys h = absurd h
In-append-left x (z ∷ xs) ys h =
    elim h as (λ _. (z ≡ x) ⊎ In x (xs ++ ys)) [ inl e ↦ inl e | inr i ↦ inr (In-append-left x xs ys i) ]

pub In-append-right : {X : Type 0} (x : X) (xs ys : List X) → In x ys → In x (xs ++ ys)
In-append-right x [] ys h = h
In-append-right x (z ∷ xs) ys h = inr (In-append-right x xs ys h)

pub In-append : {X : Type 0} (x : X) (xs ys : List X) → In x (xs ++ ys) → In x xs ⊎ In x ys
In-append x [] ys h = inr h
In-append x (z ∷ xs) ys h =
    elim h as (λ _. In x (z ∷ xs) ⊎ In x ys) [
      | inl e ↦ inl (inl e)
      | inr i ↦ elim (In-append x xs ys i) as (λ _. In x (z ∷ xs) ⊎ In x ys)
          [ inl a ↦ inl (inr a) | inr b ↦ inr b ]
    ]

pub In-map : {X Y : Type 0} (f : X → Y) (x : X) (xs : List X) → In x xs → In (f x) (map f xs)
In-map f x [] h = h
In-map f x (z ∷ xs) h = elim h as (λ _. (f z ≡ f x) ⊎ In (f x) (map f xs))
    [ inl e ↦ inl (ap f e) | inr i ↦ inr (In-map f x xs i) ]

pub In-map-back : {X Y : Type 0} (f : X → Y) (y : Y) (xs : List X) → In y (map f xs) → (x : X) × In x xs × (f x ≡ y)
In-map-back f y [] i = absurd i
In-map-back {X} f y (x ∷ xs) i =
    elim i as (λ _. (z : X) × In z (x ∷ xs) × (f z ≡ y))
    [ inl e ↦ (x, inl refl, e) | inr h ↦ let w = In-map-back f y xs h in (w.0, inr w.1, w.2) ]

pub In-filter : (p : ℕ → Bool) (x : ℕ) (xs : List ℕ) → In x (filter p xs) → In x xs × (p x ≡ true)
In-filter p x [] h = absurd h
In-filter p x (z ∷ xs) h =
    elim (cases_Bool (p z)) [
      | inl t ↦
          elim (let P : List ℕ → Type 0 = λ l. In x l in subst P (cond-true (p z) (z ∷ filter p xs) (filter p xs) t)
          h) as (λ _. In x (z ∷ xs) × (p x ≡ true)) [
            | inl e ↦ (inl e, ap p (sym e) ∙ t)
            | inr i ↦ let k = In-filter p x xs i in (inr k.0, k.1)
          ]
      | inr f ↦ let k =
          In-filter p x xs
          (let P : List ℕ → Type 0 = λ l. In x l in subst P (cond-false (p z) (z ∷ filter p xs) (filter p xs) f) h) in
          (inr k.0, k.1)
    ]

pub In-filter-from : (p : ℕ → Bool) (x : ℕ) (xs : List ℕ) → In x xs → p x ≡ true → In x (filter p xs)
In-filter-from p x [] h t = h
In-filter-from p x (z ∷ xs) h t =
    let P : List ℕ → Type 0 = λ l. In x l in
    elim h as (λ _. In x (filter p (z ∷ xs))) [
      | inl e ↦ subst P (sym (cond-true (p z) (z ∷ filter p xs) (filter p xs) (ap p e ∙ t))) (inl e)
      | inr i ↦ cond_both (p z) (z ∷ filter p xs) (filter p xs) P (λ _. inr (In-filter-from p x xs i t))
          (λ _. In-filter-from p x xs i t)
    ]

pub In-range : (x a n : ℕ) → In x (range_with_len a n) → (a ≤ x) × (x < a + n)
In-range x a zero h = absurd h
In-range x a (suc n) h =
    elim h as (λ _. (a ≤ x) × (x < a + suc n)) [
      | inl e ↦ (omega arith, omega arith)
      | inr i ↦
          let k = In-range x (a + 1) n i in (let p = k.0 in omega (arith, p), let q = k.1 in omega (arith, q))
    ]

pub In-range-from : (x a n : ℕ) → a ≤ x → x < a + n → In x (range_with_len a n)
In-range-from x a zero p q = absurd (omega arith)
In-range-from x a (suc n) p q =
    elim (cases_eq a x) [ inl e ↦ inl e | inr ne ↦ inr (In-range-from x (a + 1) n (omega arith) (omega arith)) ]

pub In-flat_map : {X : Type 0} (f : X → List ℕ) (x : X) (k : ℕ) (xs : List X) → In x xs → In k (f x)
    → In k (flat_map f xs)
In-flat_map f x k [] h i = absurd h
In-flat_map f x k (z ∷ xs) h i =
    elim h as (λ _. In k (f z ++ flat_map f xs)) [
      | inl e ↦ In-append-left k (f z) (flat_map f xs) (let P = λ (y : _). In k (f y) in subst P (sym e) i)
      | inr j ↦ In-append-right k (f z) (flat_map f xs) (In-flat_map f x k xs j i)
    ]

pub In-flat_map-back : {X : Type 0} (f : X → List ℕ) (k : ℕ) (xs : List X) → In k (flat_map f xs)
    → (x : X) × In x xs × In k (f x)
In-flat_map-back f k [] h = absurd h
In-flat_map-back {X} f k (z ∷ xs) h =
    elim (In-append k (f z) (flat_map f xs) h) as (λ _. (x : X) × In x (z ∷ xs) × In k (f x)) [
      | inl a ↦ (z, inl refl, a)
      | inr b ↦ let w = In-flat_map-back f k xs b in (w.0, inr w.1, w.2)
    ]

-- ---- tests of some element

pub list_any-false : {X : Type 0} (p : X → Bool) (xs : List X) (x : X) → list_any p xs ≡ false → In x xs → p x ≡ false
list_any-false p [] x h i = absurd i
list_any-false p (z ∷ xs) x h i =
    let k = or_parts (p z) (list_any p xs) h in
    elim i as (λ _. p x ≡ false) [ inl e ↦ ap p (sym e) ∙ k.0 | inr j ↦ list_any-false p xs x k.1 j ]

pub list_any-true : {X : Type 0} (p : X → Bool) (xs : List X) → list_any p xs ≡ true → (x : X) × In x xs × (p x ≡ true)
list_any-true p [] h = absurd (true≢false (sym h))
list_any-true {X} p (z ∷ xs) h =
    elim (or_cases (p z) (list_any p xs) h) as (λ _. (x : X) × In x (z ∷ xs) × (p x ≡ true)) [
      | inl t ↦ (z, inl refl, t)
      | inr r ↦ let w = list_any-true p xs r in (w.0, inr w.1, w.2)
    ]

-- ---- lists that hold nothing twice

abbrev pub IsDistinct : List ℕ → Type 0
IsDistinct [] = Unit {0}
IsDistinct (x ∷ xs) = (In x xs → ⊥) × IsDistinct xs

-- the list without the first x
abbrev without : ℕ → List ℕ → List ℕ
without x [] = []
without x (y ∷ ys) = cond (eqb y x) ys (y ∷ without x ys)

length-without : (x : ℕ) (ys : List ℕ) → In x ys → suc (length (without x ys)) ≡ length ys
length-without x [] h = absurd h
length-without x (y ∷ ys) h =
    elim (cases_eq y x) [
      | inl e ↦ ap (λ l. suc (length l)) (cond-true (eqb y x) ys (y ∷ without x ys) (eq-eqb y x e))
      | inr n ↦ ap (λ l. suc (length l)) (cond-false (eqb y x) ys (y ∷ without x ys) (ne_eqb y x n))
          ∙ ap suc
          (elim h as (λ _. suc (length (without x ys)) ≡ length ys)
          [ inl e ↦ absurd (n e) | inr i ↦ length-without x ys i ])
    ]

In-without : (x z : ℕ) (ys : List ℕ) → In z ys → (z ≡ x → ⊥) → In z (without x ys)
In-without x z [] h n = h
In-without x z (y ∷ ys) h n =
    let P : List ℕ → Type 0 = λ l. In z l in
    elim (cases_eq y x) [
      | inl e ↦ subst P (sym (cond-true (eqb y x) ys (y ∷ without x ys) (eq-eqb y x e)))
          (elim h as (λ _. In z ys) [ inl s ↦ absurd (n (sym s ∙ e)) | inr i ↦ i ])
      | inr ne ↦ subst P (sym (cond-false (eqb y x) ys (y ∷ without x ys) (ne_eqb y x ne)))
          (elim h as (λ _. (y ≡ z) ⊎ In z (without x ys)) [ inl s ↦ inl s | inr i ↦ inr (In-without x z ys i n) ])
    ]

-- a list that holds nothing twice, each element of which is in another, is no longer than it
pub length_of_distinct : (xs ys : List ℕ) → IsDistinct xs → ((x : ℕ) → In x xs → In x ys) → length xs ≤ length ys
length_of_distinct [] ys d h = omega arith
length_of_distinct (x ∷ xs) ys d h =
    let shorter : length xs ≤ length (without x ys) =
    length_of_distinct xs (without x ys) d.1
    (λ z i. In-without x z ys (h z (inr i)) (λ e. d.0 (let P : ℕ → Type 0 = λ w. In w xs in subst P e i))) in
    let one_less : suc (length (without x ys)) ≡ length ys = length-without x ys (h x (inl refl)) in
    omega arith
