-- Lists that are built one by one, each element from those before it.
use Rattle.std.proofs.Common.{◌≡◌, ℕ, zero, suc, ◌+◌, ◌<◌, ◌≤◌, List, [], ◌∷◌, ◌++◌, length, take, drop, fold, get_or}
use Rattle.std.proofs.{Common.{refl, sym, ap, ◌∙◌, arith}, lemmas.List.{length_push, get_or_append_left, get_or_at}}
use Rattle.std.proofs.lemmas.List.{take-append-drop, length-take-le, Sums.fold-append}

abbrev pub build : {A B : Type 0} → (List B → A → B) → List B → A → List B
build f done a = done ++ (f done a ∷ [])

pub length_built : {A B : Type 0} (f : List B → A → B) (done : List B) (xs : List A)
    → length (fold (build f) done xs) ≡ length done + length xs
length_built f done [] = omega arith
length_built f done (x ∷ xs) = let e =
    length_built f (done ++ (f done x ∷ [])) xs in omega (arith, e, length_push done (f done x))

pub built_kept : {A B : Type 0} (f : List B → A → B) (done : List B) (xs : List A) (k : ℕ) (none : B)
    → k < length done → get_or (fold (build f) done xs) k none ≡ get_or done k none
built_kept f done [] k none h = refl
built_kept f done (x ∷ xs) k none h =
    built_kept f (done ++ (f done x ∷ [])) xs k none (omega (arith, h, length_push done (f done x)))
    ∙ get_or_append_left done (f done x ∷ []) none k h

built_from : {A B : Type 0} (f : List B → A → B) (done : List B) (xs : List A) (k : ℕ) (none : B) (e : A)
    → k < length xs → get_or (fold (build f) done xs) (length done + k) none
    ≡ f (fold (build f) done (take k xs)) (get_or xs k e)
built_from f done [] k none e h = absurd (omega (arith, h))
built_from f done (x ∷ xs) zero none e h =
    let at : length done + 0 ≡ length done = omega arith in
    ap (λ (n : ℕ). get_or (fold (build f) (done ++ (f done x ∷ [])) xs) n none) at
    ∙ (built_kept f (done ++ (f done x ∷ [])) xs (length done) none (omega (arith, length_push done (f done x)))
    ∙ get_or_at done (f done x) [] none (length done) refl)
built_from f done (x ∷ xs) (suc k) none e h =
    let at : length done + suc k ≡ length (done ++ (f done x ∷ [])) + k = omega (arith, length_push done (f done x)) in
    ap (λ (n : ℕ). get_or (fold (build f) (done ++ (f done x ∷ [])) xs) n none) at
    ∙ built_from f (done ++ (f done x ∷ [])) xs k none e (omega (arith, h))

-- each from those before it
pub built_at : {A B : Type 0} (f : List B → A → B) (xs : List A) (k : ℕ) (none : B) (e : A) → k < length xs
    → get_or (fold (build f) [] xs) k none ≡ f (fold (build f) [] (take k xs)) (get_or xs k e)
built_at f xs k none e h = let at : k ≡ 0 + k = omega arith in ap (λ (n : ℕ). get_or (fold (build f) [] xs) n none) at
    ∙ built_from f [] xs k none e h

-- and those before it do not change
pub built_before : {A B : Type 0} (f : List B → A → B) (xs : List A) (k j : ℕ) (none : B) → j < k → k ≤ length xs
    → get_or (fold (build f) [] (take k xs)) j none ≡ get_or (fold (build f) [] xs) j none
built_before f xs k j none h le =
    sym (ap (λ ys. get_or (fold (build f) [] ys) j none) (sym (take-append-drop k xs))
    ∙ (ap (λ ys. get_or ys j none) (fold-append (build f) [] (take k xs) (drop k xs))
    ∙ built_kept f (fold (build f) [] (take k xs)) (drop k xs) j none
    (omega (arith, h, length_built f [] (take k xs), length-take-le k xs le))))

pub built_push : {A B : Type 0} (f : List B → A → B) (xs : List A) (x : A)
    → fold (build f) [] (xs ++ x ∷ []) ≡ fold (build f) [] xs ++ (f (fold (build f) [] xs) x ∷ [])
built_push f xs x = fold-append (build f) [] xs (x ∷ [])
