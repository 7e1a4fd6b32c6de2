-- Symbols by their numbers.
use Rattle.std.proofs.Common.{◌≡◌, ◌≢◌, ℕ, suc, ◌+◌, ◌<◌, pos, ℤ, Bool, true, false, cond, ◌||◌, Option, Some, None}
use Rattle.std.proofs.Common.{IfSome, is_some, List, [], ◌∷◌, ◌++◌, length, refl, sym, ap, ◌∙◌, subst, arith, inl, inr}
use Rattle.std.proofs.lemmas.Bool.{cases_eq, false≢true, Decides.{Decides-int_eq, nat_tests}}
use Rattle.std.specs.{Ordering.{nat_cmp, is_eq}, BTreeMap.{BTreeMap, get, Updates}}
use Rattle.cif_read.specs.{Hierarchies.Symbol, Acts.{is_known, place_of, has_number}, Readings.{HasPlaces, place_among}}
use Rattle.cif_read.proofs.Scales.{is_no}

below_step : (here known : Bool) (p m : ℕ) → (here || known) ≡ true → (known ≡ true → p < m)
    → cond here 0 (p + 1) < suc m
below_step true known p m h k = omega arith
below_step false known p m h k = omega (arith, k h)

pub place_below : (n : ℤ) (symbols : List Symbol) → is_known n symbols ≡ true → place_of n symbols < length symbols
place_below n [] h = absurd (false≢true h)
place_below n (symbol ∷ symbols) h =
    below_step (has_number n symbol) (is_known n symbols) (place_of n symbols) (length symbols) h
    (place_below n symbols)

first_place : (here : Bool) → cond (here || false) (Some (cond here 0 (0 + 1))) None ≡ cond here (Some 0) None
first_place true = refl
first_place false = refl

next_place : (here known_after known last : Bool) (p q m : ℕ)
    → cond known_after (Some p) None ≡ cond known (Some q) (cond last (Some m) None)
    → cond (here || known_after) (Some (cond here 0 (p + 1))) None
    ≡ cond (here || known) (Some (cond here 0 (q + 1))) (cond last (Some (suc m)) None)
next_place true known_after known last p q m e = refl
next_place false true true last p q m e = let same : p ≡ q = cc in ap (λ k. Some (k + 1)) same
next_place false true false true p q m e = let same : p ≡ m = cc in let next : p + 1 ≡ suc m =
    omega arith in ap Some next
next_place false true false false p q m e = cc
next_place false false true last p q m e = cc
next_place false false false true p q m e = cc
next_place false false false false p q m e = refl

place_more : (n : ℤ) (symbols : List Symbol) (symbol : Symbol)
    → place_among n (symbols ++ symbol ∷ []) ≡ cond (is_known n symbols) (Some (place_of n symbols))
    (cond (has_number n symbol) (Some (length symbols)) None)
place_more n [] symbol = first_place (has_number n symbol)
place_more n (first ∷ symbols) symbol =
    next_place (has_number n first) (is_known n (symbols ++ symbol ∷ [])) (is_known n symbols) (has_number n symbol)
    (place_of n (symbols ++ symbol ∷ [])) (place_of n symbols) (length symbols) (place_more n symbols symbol)

same_number : (n : ℤ) (symbol : Symbol) → symbol.number ≡ n → has_number n symbol ≡ true
same_number n symbol e = (Decides-int_eq symbol.number n).1 e

other_number : (n q : ℕ) (symbol : Symbol) → symbol.number ≡ pos n → q ≢ n → has_number (pos q) symbol ≡ false
other_number n q symbol e ne =
    is_no (has_number (pos q) symbol)
    (λ h. let same : symbol.number ≡ pos q = (Decides-int_eq symbol.number (pos q)).0 h in ne cc)

at_same : (places after : BTreeMap ℕ ℕ) (symbols : List Symbol) (symbol : Symbol) (n : ℕ)
    → is_known (pos n) symbols ≡ false → symbol.number ≡ pos n
    → Updates nat_cmp places after n (Some (length symbols))
    → get nat_cmp after n ≡ place_among (pos n) (symbols ++ symbol ∷ [])
at_same places after symbols symbol n fresh number updates =
    updates.1 ∙ sym (place_more (pos n) symbols symbol ∙ rw (fresh, same_number (pos n) symbol number) refl)

apart_numbers : (n q : ℕ) → q ≢ n → is_eq (nat_cmp n q) ≡ false
apart_numbers n q ne = grind (arith, nat_tests)

at_other : (places after : BTreeMap ℕ ℕ) (symbols : List Symbol) (symbol : Symbol) (n q : ℕ)
    → HasPlaces places symbols → q ≢ n → symbol.number ≡ pos n
    → Updates nat_cmp places after n (Some (length symbols))
    → get nat_cmp after q ≡ place_among (pos q) (symbols ++ symbol ∷ [])
at_other places after symbols symbol n q h ne number updates =
    let apart = apart_numbers n q ne in
    updates.2 q apart
    ∙ (h.each q ∙ sym (place_more (pos q) symbols symbol ∙ rw (other_number n q symbol number ne) refl))

pub places_added : (places after : BTreeMap ℕ ℕ) (symbols : List Symbol) (symbol : Symbol) (n : ℕ)
    → HasPlaces places symbols → is_known (pos n) symbols ≡ false → symbol.number ≡ pos n
    → Updates nat_cmp places after n (Some (length symbols)) → HasPlaces after (symbols ++ symbol ∷ [])
places_added places after symbols symbol n h fresh number updates = record {
  each = λ q. elim (cases_eq q n) [
    | inl e ↦ subst (λ k. get nat_cmp after k ≡ place_among (pos k) (symbols ++ symbol ∷ [])) (sym e)
        (at_same places after symbols symbol n fresh number updates)
    | inr ne ↦ at_other places after symbols symbol n q h ne number updates
  ];
}

unknown_from : (known : Bool) (p : ℕ) → is_some (cond known (Some p) None) ≡ false → known ≡ false
unknown_from true p h = absurd (false≢true (sym h))
unknown_from false p h = refl

pub fresh_from : (places : BTreeMap ℕ ℕ) (symbols : List Symbol) (n : ℕ) → HasPlaces places symbols
    → false ≡ is_some (get nat_cmp places n) → is_known (pos n) symbols ≡ false
fresh_from places symbols n h e =
    unknown_from (is_known (pos n) symbols) (place_of (pos n) symbols) (ap is_some (sym (h.each n)) ∙ sym e)

known_from : (known : Bool) (p q : ℕ) → cond known (Some p) None ≡ Some q → (known ≡ true) × (p ≡ q)
known_from true p q e = (refl, cc)
known_from false p q e = cc

pub known_at : (places : BTreeMap ℕ ℕ) (symbols : List Symbol) (n place : ℕ) → HasPlaces places symbols
    → get nat_cmp places n ≡ Some place → (is_known (pos n) symbols ≡ true) × (place_of (pos n) symbols ≡ place)
known_at places symbols n place h e =
    known_from (is_known (pos n) symbols) (place_of (pos n) symbols) place (sym (h.each n) ∙ e)

-- ---- of a definition that has begun, or has not

pub some_holds : {X : Type 0} (o : Option X) (x : X) (P : X → Type 0) → o ≡ Some x → IfSome o P → P x
some_holds o x P e h = subst (λ v. IfSome v P) e h

pub none_holds : {X : Type 0} (o : Option X) (P : X → Type 0) → o ≡ None → IfSome o P
none_holds o P e = subst (λ v. IfSome v P) (sym e) tt
