-- Lists by their numbers.
use Rattle.smallvec.specs.SmallVec.{SmallVec}
use Rattle.std.proofs.Common.{◌≡◌, ◌≢◌, ℕ, zero, suc, refl, ◌<◌, List, [], ◌∷◌, ◌++◌, length, map, get_or, set, sym, ap}
use Rattle.std.proofs.Common.{◌∙◌, arith, get_or-set_same, get_or-set_other}
use Rattle.std.proofs.lemmas.List.{map-set, length-map, get_or-map}
use Rattle.design_nets.specs.Listing.{list_in}

module _ {A : Type 0} where
  pub list_here : (lists : List (SmallVec A)) (k : ℕ) (v : SmallVec A) → k < length lists
      → list_in (set lists k v) k ≡ v.items
  list_here lists k v lt =
      let items = λ (x : SmallVec A). x.items in
      ap (λ (xs : List (List A)). get_or xs k []) (map-set items lists k v)
      ∙ get_or-set_same (map items lists) k v.items [] (omega (arith, length-map lists items))

  pub list_other : (lists : List (SmallVec A)) (k j : ℕ) (v : SmallVec A) → j ≢ k
      → list_in (set lists k v) j ≡ list_in lists j
  list_other lists k j v ne =
      let items = λ (x : SmallVec A). x.items in
      ap (λ (xs : List (List A)). get_or xs j []) (map-set items lists k v)
      ∙ get_or-set_other (map items lists) k j v.items [] ne

  pub list_read : (lists : List (SmallVec A)) (k : ℕ) (d : SmallVec A) → k < length lists
      → (get_or lists k d).items ≡ list_in lists k
  list_read lists k d lt = sym (get_or-map (λ (x : SmallVec A). x.items) lists k d [] lt)

  -- an element is put at the end of one
  pub list_pushed : (lists : List (SmallVec A)) (k : ℕ) (old new : SmallVec A) (x : A) → k < length lists
      → old ≡ get_or lists k old → new.items ≡ old.items ++ x ∷ []
      → list_in (set lists k new) k ≡ list_in lists k ++ x ∷ []
  list_pushed lists k old new x lt is e = list_here lists k new lt
      ∙ (e ∙ ap (λ (xs : List A). xs ++ x ∷ []) (ap (λ (v : SmallVec A). v.items) is ∙ list_read lists k old lt))

  -- one more list with nothing in it
  pub lists_empty : (lists : List (SmallVec A)) (v : SmallVec A) → ((k : ℕ) → list_in lists k ≡ []) → v.items ≡ []
      → (k : ℕ) → list_in (lists ++ v ∷ []) k ≡ []
  lists_empty [] v h e zero = e
  lists_empty [] v h e (suc k) = refl
  lists_empty (x ∷ lists) v h e zero = h zero
  lists_empty (x ∷ lists) v h e (suc k) = lists_empty lists v (λ j. h (suc j)) e k
