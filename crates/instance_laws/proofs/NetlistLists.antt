-- Lists that have no element twice, and what stands at which number.
use Rattle.std.proofs.Common.{◌≡◌, ℕ, zero, suc, ◌+◌, ◌<◌, ◌≤◌, Bool, true, false, List, [], ◌∷◌, ◌++◌, length, cond}
use Rattle.std.proofs.{Common.{Some, refl, sym, ap, ◌∙◌, subst, arith, inl, inr, ◌⊎◌}, lemmas.Bool.cases_lt}
use Rattle.std.specs.{Prelude.{map, filter, flat_map, slice_get}, List.range_with_len}

-- an element of a list
abbrev pub Has : {X : Type 0} → List X → X → Type 0
Has [] x = ⊥
Has (y ∷ ys) x = (y ≡ x) ⊎ Has ys x

-- no element stands in a list twice
abbrev pub Unique : {X : Type 0} → List X → Type 0
Unique [] = Unit {0}
Unique (x ∷ xs) = (Has xs x → ⊥) × Unique xs

-- ---- elements

pub has_left : {X : Type 0} (xs ys : List X) (x : X) → Has xs x → Has (xs ++ ys) x
has_left [] ys x h = absurd h
has_left (y ∷ xs) ys x (inl e) = inl e
has_left (y ∷ xs) ys x (inr h) = inr (has_left xs ys x h)

pub has_right : {X : Type 0} (xs ys : List X) (x : X) → Has ys x → Has (xs ++ ys) x
has_right [] ys x h = h
has_right (y ∷ xs) ys x h = inr (has_right xs ys x h)

pub has_either : {X : Type 0} (xs ys : List X) (x : X) → Has (xs ++ ys) x → Has xs x ⊎ Has ys x
has_either [] ys x h = inr h
has_either (y ∷ xs) ys x (inl e) = inl (inl e)
has_either (y ∷ xs) ys x (inr h) = elim (has_either xs ys x h) [ inl k ↦ inl (inr k) | inr k ↦ inr k ]

pub has_map : {X Y : Type 0} (f : X → Y) (xs : List X) (x : X) → Has xs x → Has (map f xs) (f x)
has_map f [] x h = absurd h
has_map f (y ∷ xs) x (inl e) = inl (ap f e)
has_map f (y ∷ xs) x (inr h) = inr (has_map f xs x h)

pub from_map : {X Y : Type 0} (f : X → Y) (xs : List X) (y : Y) → Has (map f xs) y → (x : X) × Has xs x × (f x ≡ y)
from_map f [] y h = absurd h
from_map f (x ∷ xs) y (inl e) = (x, inl refl, e)
from_map f (x ∷ xs) y (inr h) = (let k = from_map f xs y h in (k.0, inr k.1, k.2))

pub has_flat : {X Y : Type 0} (f : X → List Y) (xs : List X) (x : X) (y : Y) → Has xs x → Has (f x) y
    → Has (flat_map f xs) y
has_flat f [] x y h k = absurd h
has_flat f (z ∷ xs) x y (inl e) k = has_left (f z) (flat_map f xs) y (subst (λ u. Has (f u) y) (sym e) k)
has_flat f (z ∷ xs) x y (inr h) k = has_right (f z) (flat_map f xs) y (has_flat f xs x y h k)

pub from_flat : {X Y : Type 0} (f : X → List Y) (xs : List X) (y : Y) → Has (flat_map f xs) y
    → (x : X) × Has xs x × Has (f x) y
from_flat f [] y h = absurd h
from_flat f (x ∷ xs) y h = elim (has_either (f x) (flat_map f xs) y h) [
  | inl k ↦ (x, inl refl, k)
  | inr k ↦ (let r = from_flat f xs y k in (r.0, inr r.1, r.2))
]

pub has_filter : {X : Type 0} (p : X → Bool) (xs : List X) (x : X) → Has xs x → p x ≡ true → Has (filter p xs) x
has_filter p [] x h e = absurd h
has_filter p (y ∷ xs) x (inl e) t = (let u : p y ≡ true = ap p e ∙ t in rw u (inl e))
has_filter p (y ∷ xs) x (inr h) t = kept p y xs x (has_filter p xs x h t)
  where
    by : {X : Type 0} (b : Bool) (y : X) (ys : List X) (x : X) → Has ys x → Has (cond b (y ∷ ys) ys) x
    by true y ys x h = inr h
    by false y ys x h = h

    kept : {X : Type 0} (p : X → Bool) (y : X) (xs : List X) (x : X) → Has (filter p xs) x → Has (filter p (y ∷ xs)) x
    kept p y xs x h = by (p y) y (filter p xs) x h

pub has_range : (a n k : ℕ) → a ≤ k → k < a + n → Has (range_with_len a n) k
has_range a zero k h l = absurd (omega arith)
has_range a (suc n) k h l = elim (cases_lt a k) [
  | inl lt ↦ inr (has_range (a + 1) n k (omega arith) (omega arith))
  | inr le ↦ inl (omega arith)
]

pub from_range : (a n k : ℕ) → Has (range_with_len a n) k → (a ≤ k) × (k < a + n)
from_range a zero k h = absurd h
from_range a (suc n) k (inl e) = (omega arith, omega arith)
from_range a (suc n) k (inr h) =
    (let r = from_range (a + 1) n k h in let low = r.0 in let high = r.1 in (omega arith, omega arith))

-- ---- by number

pub number_of : {X : Type 0} (xs : List X) (x : X) → Has xs x → (k : ℕ) × (slice_get xs k ≡ Some x)
number_of [] x h = absurd h
number_of (y ∷ xs) x (inl e) = (zero, ap Some e)
number_of (y ∷ xs) x (inr h) = (let r = number_of xs x h in (suc r.0, r.1))

pub has_at : {X : Type 0} (xs : List X) (k : ℕ) (x : X) → slice_get xs k ≡ Some x → Has xs x
has_at [] k x e = absurd cc
has_at (y ∷ xs) zero x e = inl cc
has_at (y ∷ xs) (suc k) x e = inr (has_at xs k x e)

pub at_below : {X : Type 0} (xs : List X) (k : ℕ) → k < length xs → (x : X) × (slice_get xs k ≡ Some x)
at_below [] k h = absurd (omega arith)
at_below (x ∷ xs) zero h = (x, refl)
at_below (x ∷ xs) (suc k) h = at_below xs k (omega arith)

pub same_number : {X : Type 0} (xs : List X) (i j : ℕ) (x : X) → Unique xs → slice_get xs i ≡ Some x
    → slice_get xs j ≡ Some x → i ≡ j
same_number [] i j x u e f = absurd cc
same_number (y ∷ xs) zero zero x u e f = refl
same_number (y ∷ xs) zero (suc j) x u e f =
    (let same : y ≡ x = cc in absurd (u.0 (subst (Has xs) (sym same) (has_at xs j x f))))
same_number (y ∷ xs) (suc i) zero x u e f =
    (let same : y ≡ x = cc in absurd (u.0 (subst (Has xs) (sym same) (has_at xs i x e))))
same_number (y ∷ xs) (suc i) (suc j) x u e f = ap suc (same_number xs i j x u.1 e f)

-- ---- no element twice

pub unique_append : {X : Type 0} (xs ys : List X) → Unique xs → Unique ys → ((x : X) → Has xs x → Has ys x → ⊥)
    → Unique (xs ++ ys)
unique_append [] ys u v apart = v
unique_append (x ∷ xs) ys u v apart = (
  λ h. elim (has_either xs ys x h) [ inl k ↦ u.0 k | inr k ↦ apart x (inl refl) k ],
  unique_append xs ys u.1 v (λ z h k. apart z (inr h) k),
)

pub unique_map : {X Y : Type 0} (f : X → Y) → ((x y : X) → f x ≡ f y → x ≡ y) → (xs : List X) → Unique xs
    → Unique (map f xs)
unique_map f one [] u = tt
unique_map f one (x ∷ xs) u =
    (λ h. (let r = from_map f xs (f x) h in u.0 (subst (Has xs) (one r.0 x r.2) r.1)), unique_map f one xs u.1)

pub unique_flat : {X Y : Type 0} (f : X → List Y) → ((x : X) → Unique (f x))
    → ((x y : X) (z : Y) → Has (f x) z → Has (f y) z → x ≡ y) → (xs : List X) → Unique xs → Unique (flat_map f xs)
unique_flat f each one [] u = tt
unique_flat f each one (x ∷ xs) u =
    unique_append (f x) (flat_map f xs) (each x) (unique_flat f each one xs u.1)
    (λ z h k. (let r = from_flat f xs z k in u.0 (subst (Has xs) (sym (one x r.0 z h r.2)) r.1)))

pub unique_range : (a n : ℕ) → Unique (range_with_len a n)
unique_range a zero = tt
unique_range a (suc n) =
    (λ h. (let r = from_range (a + 1) n a h in let low = r.0 in omega arith), unique_range (a + 1) n)

from_test : {X : Type 0} (b : Bool) (y : X) (ys : List X) (x : X) → Has (cond b (y ∷ ys) ys) x
    → ((b ≡ true) × (y ≡ x)) ⊎ Has ys x
from_test true y ys x (inl e) = inl (refl, e)
from_test true y ys x (inr h) = inr h
from_test false y ys x h = inr h

pub from_filter : {X : Type 0} (p : X → Bool) (xs : List X) (x : X) → Has (filter p xs) x → Has xs x × (p x ≡ true)
from_filter p [] x h = absurd h
from_filter p (y ∷ xs) x h = elim (from_test (p y) y (filter p xs) x h) [
  | inl k ↦ (inl k.1, ap p (sym k.1) ∙ k.0)
  | inr k ↦ (let r = from_filter p xs x k in (inr r.0, r.1))
]

unique_test : {X : Type 0} (b : Bool) (y : X) (ys : List X) → (Has ys y → ⊥) → Unique ys → Unique (cond b (y ∷ ys) ys)
unique_test true y ys ne u = (ne, u)
unique_test false y ys ne u = u

pub unique_filter : {X : Type 0} (p : X → Bool) (xs : List X) → Unique xs → Unique (filter p xs)
unique_filter p [] u = tt
unique_filter p (y ∷ xs) u =
    unique_test (p y) y (filter p xs) (λ h. u.0 (from_filter p xs y h).0) (unique_filter p xs u.1)
