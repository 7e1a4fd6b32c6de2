-- Masters and mask boxes, one after another.
use Rattle.std.proofs.Common.{◌≡◌, ℕ, zero, suc, ◌+◌, ◌<◌, List, [], ◌∷◌, ◌++◌, length, map, take, get_or, sym, ap}
use Rattle.std.proofs.{Common.{refl, subst, ◌∙◌, arith}, lemmas.List.{length-map, get_or-map, map_more}}
use Rattle.std.proofs.lemmas.List.{take_more, Elements.{All-get_or, All-from_get_or, All-append, All-nil, All-cons}}
use Rattle.std.specs.{List.AllZip, Prelude.All}

-- what holds of each image holds of that of each element
pub among_images : {A B : Type 0} (P : B → Type 0) (f : A → B) (xs : List A) (i : ℕ) (d : A) → i < length xs
    → All P (map f xs) → P (f (get_or xs i d))
among_images P f xs i d lt all =
    let count : length (map f xs) ≡ length xs = length-map xs f in
    let at : P (get_or (map f xs) i (f d)) = All-get_or P (map f xs) i (f d) (omega (arith, count, lt)) all in
    rw (get_or-map f xs i d (f d) lt) at at

-- two lists with the same images, element by element
pub are_images : {A B C : Type 0} (f : A → C) (g : B → C) (bs : List B) (as_ : List A)
    → AllZip (λ b a. f a ≡ g b) bs as_ → map f as_ ≡ map g bs
are_images f g [] [] h = refl
are_images f g [] (a ∷ as_) h = absurd h
are_images f g (b ∷ bs) [] h = absurd h
are_images f g (b ∷ bs) (a ∷ as_) h = ap (λ x. x ∷ map f as_) h.0 ∙ ap (λ xs. g b ∷ xs) (are_images f g bs as_ h.1)

-- what holds of each element of the second of two lists
pub all_second : {A B : Type 0} (P : A → Type 0) (bs : List B) (as_ : List A) → AllZip (λ b a. P a) bs as_ → All P as_
all_second P [] [] h = All-nil P
all_second P [] (a ∷ as_) h = absurd h
all_second P (b ∷ bs) [] h = absurd h
all_second P (b ∷ bs) (a ∷ as_) h = All-cons P a as_ h.0 (all_second P bs as_ h.1)

-- one more image
pub push_mapped : {B C : Type 0} (g : B → C) (prefix : List C) (x : C) (bs : List B) (i : ℕ) (d : B) → i < length bs
    → prefix ≡ map g (take i bs) → x ≡ g (get_or bs i d) → prefix ++ x ∷ [] ≡ map g (take (i + 1) bs)
push_mapped g prefix x bs i d lt before next =
    ap (λ xs. xs ++ x ∷ []) before ∙ (ap (λ y. map g (take i bs) ++ y ∷ []) next ∙ sym (map_more g bs i d lt))

pub all_of_one : {A : Type 0} (P : A → Type 0) (x : A) → P x → All P (x ∷ [])
all_of_one P x p = All-from_get_or P (x ∷ []) x (λ i lt. at_first i lt)
  where
    at_first : (i : ℕ) → i < 1 → P (get_or (x ∷ []) i x)
    at_first zero lt = p
    at_first (suc i) lt = absurd (omega (arith, lt))

-- one more element that has the fact
pub all_next : {A : Type 0} (P : A → Type 0) (xs : List A) (i : ℕ) (d x : A) → i < length xs → x ≡ get_or xs i d
    → All P (take i xs) → P x → All P (take (i + 1) xs)
all_next P xs i d x lt is before p =
    let more : take (i + 1) xs ≡ take i xs ++ x ∷ [] = take_more xs i d lt ∙ ap (λ y. take i xs ++ y ∷ []) (sym is) in
    subst (λ ys. All P ys) (sym more) (All-append P (take i xs) (x ∷ []) before (all_of_one P x p))
