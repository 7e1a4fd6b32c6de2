-- Lists in which each element comes before all later ones.
use Rattle.std.proofs.Common.{◌≡◌, ℕ, zero, suc, ◌<◌, ◌≤◌, ◌⊎◌, inl, inr, List, [], ◌∷◌, length, get_or, refl, sym, ap}
use Rattle.std.proofs.Common.{subst, ◌∙◌, arith}
use Rattle.std.specs.List.{AllPairs, Contains}

pub pairs_tail : {A : Type 0} (R : A → A → Type 0) (x : A) (xs : List A) → AllPairs R (x ∷ xs) → AllPairs R xs
pairs_tail R x xs h = λ i j d lt le. h (suc i) (suc j) d (omega arith) (omega arith)

pub before_later : {A : Type 0} (R : A → A → Type 0) (x : A) (xs : List A) → AllPairs R (x ∷ xs) → (v : A)
    → Contains xs v → R x v
before_later R x xs h v w = subst (R x) w.2 (let l = w.1 in h 0 (suc w.0) v (omega arith) (omega arith))

here : {A : Type 0} (x : A) (xs : List A) → Contains (x ∷ xs) x
here x xs = (0, omega arith, refl)

there : {A : Type 0} (x v : A) (xs : List A) → Contains xs v → Contains (x ∷ xs) v
there x v xs w = (suc w.0, (let l = w.1 in omega arith), w.2)

at_place : {A : Type 0} (x v : A) (xs : List A) (k : ℕ) → k < length (x ∷ xs) → get_or (x ∷ xs) k v ≡ v
    → (x ≡ v) ⊎ Contains xs v
at_place x v xs zero lt e = inl e
at_place x v xs (suc k) lt e = inr (k, omega arith, e)

pub one_or_later : {A : Type 0} (x v : A) (xs : List A) → Contains (x ∷ xs) v → (x ≡ v) ⊎ Contains xs v
one_or_later x v xs w = at_place x v xs w.0 w.1 w.2

none_in_nil : {A : Type 0} (v : A) → Contains [] v → ⊥
none_in_nil v w = let l = w.1 in omega arith

-- what is a member of both lists, and is not the first of the one, is not the first of the other
in_tail : {A : Type 0} (R : A → A → Type 0) → ((v : A) → R v v → ⊥) → (x y : A) (xs ys : List A) → x ≡ y
    → AllPairs R (x ∷ xs) → ((v : A) → Contains (x ∷ xs) v → Contains (y ∷ ys) v) → (v : A) → Contains xs v
    → Contains ys v
in_tail R irreflexive x y xs ys same a f v i =
    elim (one_or_later y v ys (f v (there x v xs i))) as (λ _. Contains ys v) [
      | inl e ↦ absurd (irreflexive x (subst (R x) (sym e ∙ sym same) (before_later R x xs a v i)))
      | inr j ↦ j
    ]

pub same_list : {A : Type 0} (R : A → A → Type 0) → ((u v : A) → R u v → R v u → ⊥) → (xs ys : List A) → AllPairs R xs
    → AllPairs R ys → ((v : A) → Contains xs v → Contains ys v) → ((v : A) → Contains ys v → Contains xs v) → xs ≡ ys
same_list R asym [] [] a b f g = refl
same_list R asym [] (y ∷ ys) a b f g = absurd (none_in_nil y (g y (here y ys)))
same_list R asym (x ∷ xs) [] a b f g = absurd (none_in_nil x (f x (here x xs)))
same_list {A} R asym (x ∷ xs) (y ∷ ys) a b f g =
    let first : x ≡ y = elim (one_or_later y x ys (f x (here x xs))) as (λ _. x ≡ y) [
      | inl e ↦ sym e
      | inr i ↦ elim (one_or_later x y xs (g y (here y ys))) as (λ _. x ≡ y)
          [ inl e ↦ e | inr j ↦ absurd (asym x y (before_later R x xs a y j) (before_later R y ys b x i)) ]
    ] in
    let irreflexive : (v : A) → R v v → ⊥ = λ v r. asym v v r r in
    let rest : xs ≡ ys = same_list R asym xs ys (pairs_tail R x xs a) (pairs_tail R y ys b)
    (in_tail R irreflexive x y xs ys first a f) (in_tail R irreflexive y x ys xs (sym first) b g) in
    ap (λ z. z ∷ xs) first ∙ ap (λ l. y ∷ l) rest

-- if all elements of one such list are in another, it is no longer than that one
pub no_longer : {A : Type 0} (R : A → A → Type 0) → ((u v : A) → R u v → R v u → ⊥) → (ys xs : List A) → AllPairs R xs
    → AllPairs R ys → ((v : A) → Contains xs v → Contains ys v) → length xs ≤ length ys
no_longer R asym ys [] a b f = omega arith
no_longer R asym [] (x ∷ xs) a b f = absurd (none_in_nil x (f x (here x xs)))
no_longer {A} R asym (y ∷ ys) (x ∷ xs) a b f =
    let irreflexive : (v : A) → R v v → ⊥ = λ v r. asym v v r r in
    elim (one_or_later y x ys (f x (here x xs))) as (λ _. length (x ∷ xs) ≤ length (y ∷ ys)) [
      | inl e ↦
          let rest = no_longer R asym ys xs (pairs_tail R x xs a) (pairs_tail R y ys b)
          (in_tail R irreflexive x y xs ys (sym e) a f) in
          omega (arith, rest)
      | inr i ↦
          let inside : (v : A) → Contains (x ∷ xs) v → Contains ys v = λ v w.
          elim (one_or_later x v xs w) as (λ _. Contains ys v) [
            | inl e ↦ subst (Contains ys) e i
            | inr j ↦ elim (one_or_later y v ys (f v w)) as (λ _. Contains ys v) [
              | inl e ↦ absurd (asym x v (before_later R x xs a v j)
                  (subst (λ z. R z x) e (before_later R y ys b x i)))
              | inr k ↦ k
            ]
          ] in
          let rest = no_longer R asym ys (x ∷ xs) a (pairs_tail R y ys b) inside in
          omega (arith, rest)
    ]

pub all_pairs_weaker : {A : Type 0} (R S : A → A → Type 0) → ((x y : A) → R x y → S x y) → (xs : List A)
    → AllPairs R xs → AllPairs S xs
all_pairs_weaker R S f xs h = λ i j d lt le. f _ _ (h i j d lt le)
