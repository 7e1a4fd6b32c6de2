-- Lists of the pieces of some elements.
use Rattle.std.proofs.Common.{ℕ, suc, ◌<◌, ◌≤◌, List, [], ◌∷◌, ◌++◌, length, get_or, sym, inl, inr, arith}
use Rattle.std.proofs.Common.{length-append, subst, ◌≡◌, ◌+◌, take, map, ap, ◌∙◌}
use Rattle.std.proofs.lemmas.List.{append-nil, take_more, length-map, get_or-map, Concat.flat_map-append}
use Rattle.std.proofs.lemmas.List.{Elements.{All-nil, All-head, All-tail, All-append}, Kept.AllPairs-cons}
use Rattle.std.proofs.lemmas.List.Elements.{Contains-append_left, Contains-append_right}
use Rattle.std.proofs.lemmas.List.FromFn.{length-range_with_len, get_or-range_with_len}
use Rattle.std.specs.List.{All, AllPairs, Contains, flat_map, range_with_len}
use Rattle.pair_set.specs.Sets.{pair_of}
use Rattle.shadow_prune.proofs.SameLists.{pairs_tail, one_or_later}

-- what holds of the pieces, of the whole
pub all_pieces : {A B : Type 0} (P : B → Type 0) (f : A → List B) (xs : List A) → All (λ x. All P (f x)) xs
    → All P (flat_map f xs)
all_pieces P f [] h = All-nil P
all_pieces P f (x ∷ xs) h =
    All-append P (f x) (flat_map f xs) (All-head (λ y. All P (f y)) x xs h)
    (all_pieces P f xs (All-tail (λ y. All P (f y)) x xs h))

-- what a piece contains, the whole contains
pub in_piece : {A B : Type 0} (f : A → List B) (xs : List A) (x : A) (v : B) → Contains xs x → Contains (f x) v
    → Contains (flat_map f xs) v
in_piece f [] x v w h = absurd (let lt = w.1 in omega (arith, lt))
in_piece f (y ∷ ys) x v w h =
    elim (one_or_later y x ys w) as (λ _. Contains (f y ++ flat_map f ys) v) [
      | inl e ↦ Contains-append_left (f y) (flat_map f ys) v (subst (λ z. Contains (f z) v) (sym e) h)
      | inr later ↦ Contains-append_right (f y) (flat_map f ys) v (in_piece f ys x v later h)
    ]

-- the pieces of one element more
pub piece_more : {A B : Type 0} (f : A → List B) (xs : List A) (k : ℕ) (d : A) → k < length xs
    → flat_map f (take (k + 1) xs) ≡ flat_map f (take k xs) ++ f (get_or xs k d)
piece_more f xs k d lt =
    ap (flat_map f) (take_more xs k d lt) ∙ flat_map-append f (take k xs) (get_or xs k d ∷ [])
    ∙ ap (λ l. flat_map f (take k xs) ++ l) (append-nil (f (get_or xs k d)))

-- how many there are
pub at_least_one : {A B : Type 0} (f : A → List B) (xs : List A) → All (λ x. 1 ≤ length (f x)) xs
    → length xs ≤ length (flat_map f xs)
at_least_one f [] h = omega arith
at_least_one f (x ∷ xs) h =
    let first = All-head (λ y. 1 ≤ length (f y)) x xs h in
    let rest = at_least_one f xs (All-tail (λ y. 1 ≤ length (f y)) x xs h) in
    omega (arith, first, rest, length-append (f x) (flat_map f xs))

pub at_most_one : {A B : Type 0} (f : A → List B) → ((x : A) → length (f x) ≤ 1) → (xs : List A)
    → length (flat_map f xs) ≤ length xs
at_most_one f few [] = omega arith
at_most_one f few (x ∷ xs) =
    omega (arith, few x, at_most_one f few xs, length-append (f x) (flat_map f xs))

-- ---- order

before_rest : {A : Type 0} (R : A → A → Type 0) (x : A) (xs : List A) → AllPairs R (x ∷ xs) → All (R x) xs
before_rest R x xs h = λ k d lt. h 0 (suc k) d (omega arith) (omega arith)

no_pairs : {A : Type 0} (R : A → A → Type 0) → AllPairs R []
no_pairs R = λ i j d lt le. absurd (omega (arith, le))

ordered_append : {A : Type 0} (R : A → A → Type 0) (xs ys : List A) → AllPairs R xs → AllPairs R ys
    → All (λ x. All (R x) ys) xs → AllPairs R (xs ++ ys)
ordered_append R [] ys a b h = b
ordered_append R (x ∷ xs) ys a b h =
    AllPairs-cons R x (xs ++ ys)
    (All-append (R x) xs ys (before_rest R x xs a) (All-head (λ v. All (R v) ys) x xs h))
    (ordered_append R xs ys (pairs_tail R x xs a) b (All-tail (λ v. All (R v) ys) x xs h))

-- the pieces of elements in order, where each piece is in order and comes before those of later elements
pub ordered_pieces : {A B : Type 0} (S : A → A → Type 0) (R : B → B → Type 0) (f : A → List B)
    → ((x : A) → AllPairs R (f x)) → ((x y : A) → S x y → All (λ v. All (R v) (f y)) (f x)) → (xs : List A)
    → AllPairs S xs → AllPairs R (flat_map f xs)
ordered_pieces S R f inside across [] h = no_pairs R
ordered_pieces S R f inside across (x ∷ xs) h =
    ordered_append R (f x) (flat_map f xs) (inside x)
    (ordered_pieces S R f inside across xs (pairs_tail S x xs h))
    (λ k d lt. all_pieces (R (get_or (f x) k d)) f xs
    (λ j e j_lt. across x (get_or xs j e) (before_rest S x xs h j e j_lt) k d lt))

pub numbers_in_order : (a n : ℕ) → AllPairs (λ k m. k < m) (range_with_len a n)
numbers_in_order a n i j d lt le =
    let all = length-range_with_len a n in
    omega (
      arith,
      get_or-range_with_len a n i d (omega (arith, lt, le, all)),
      get_or-range_with_len a n j d (omega (arith, le, all)),
    )

-- what holds of each pair of some numbers, by number
pub all_keys : (P : ℕ × ℕ → Type 0) (keys : List ℕ) → All P (map pair_of keys) → All (λ k. P (pair_of k)) keys
all_keys P keys h = λ k d lt.
    subst P (get_or-map pair_of keys k d (0, 0) lt)
    (h k (0, 0) (subst (λ n. k < n) (sym (length-map keys pair_of)) lt))
