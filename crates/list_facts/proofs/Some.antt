-- What holds of some element of a list, of joined lists and of numbers.
use Rattle.std.proofs.Common.{◌≡◌, ℕ, zero, suc, ◌+◌, ◌<◌, ◌≤◌, List, [], ◌∷◌, ◌++◌, length, map, refl, sym, ap, ◌∙◌}
use Rattle.std.proofs.{Common.{subst, arith, inl, inr, length-append}, lemmas.{Bool.cases_lt, List.get_or_append_left}}
use Rattle.std.{proofs.lemmas.List.{get_or-map, length-map}, specs.List.{flat_map, range_with_len, Any, Contains}}

pub any_here : {X : Type 0} (P : X → Type 0) (x : X) (xs : List X) → P x → Any P (x ∷ xs)
any_here P x xs h = (0, x, omega arith, refl, h)

pub any_there : {X : Type 0} (P : X → Type 0) (x : X) (xs : List X) → Any P xs → Any P (x ∷ xs)
any_there P x xs h = (suc h.0, h.1, omega (arith, h.2), h.3, h.4)

pub any_left : {X : Type 0} (P : X → Type 0) (xs ys : List X) → Any P xs → Any P (xs ++ ys)
any_left P xs ys h =
    (h.0, h.1, omega (arith, h.2, length-append xs ys), get_or_append_left xs ys h.1 h.0 h.2 ∙ h.3, h.4)

pub any_right : {X : Type 0} (P : X → Type 0) (xs ys : List X) → Any P ys → Any P (xs ++ ys)
any_right P [] ys h = h
any_right P (x ∷ xs) ys h = any_there P x (xs ++ ys) (any_right P xs ys h)

-- where some element has a piece with a fact, the joined list has it
pub any_flat_map : {X Y : Type 0} (P : X → Type 0) (Q : Y → Type 0) (f : X → List Y) (xs : List X)
    → ((x : X) → P x → Any Q (f x)) → Any P xs → Any Q (flat_map f xs)
any_flat_map P Q f [] step h = absurd (omega (arith, h.2))
any_flat_map P Q f (x ∷ xs) step (zero, y, lt, e, h) = any_left Q (f x) (flat_map f xs) (step x (subst P (sym e) h))
any_flat_map P Q f (x ∷ xs) step (suc k, y, lt, e, h) =
    any_right Q (f x) (flat_map f xs) (any_flat_map P Q f xs step (k, y, omega arith, e, h))

pub any_range : (P : ℕ → Type 0) (a n k : ℕ) → a ≤ k → k < a + n → P k → Any P (range_with_len a n)
any_range P a zero k le lt h = absurd (omega arith)
any_range P a (suc n) k le lt h = elim (cases_lt a k) [
  | inl more ↦ any_there P a (range_with_len (a + 1) n) (any_range P (a + 1) n k (omega arith) (omega arith) h)
  | inr less ↦ any_here P a (range_with_len (a + 1) n) (let e : k ≡ a = omega arith in subst P e h)
]

-- the image of what a list contains is among the images
pub contains_map : {X Y : Type 0} (f : X → Y) (xs : List X) (x : X) → Contains xs x → Contains (map f xs) (f x)
contains_map f xs x h = (h.0, omega (arith, h.1, length-map xs f), get_or-map f xs h.0 x (f x) h.1 ∙ ap f h.2)
