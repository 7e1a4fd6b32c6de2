-- What lists of the pieces of the first numbers contain.
use Rattle.std.proofs.Common.{◌≡◌, ℕ, zero, suc, ◌+◌, ◌<◌, ◌≤◌, ℤ, List, [], ◌∷◌, ◌++◌, length, get_or, Option, Some}
use Rattle.std.proofs.Common.{refl, sym, ap, ◌∙◌, subst, append_assoc, zero-add, arith}
use Rattle.std.proofs.lemmas.List.{FromFn.{length-range_with_len, get_or-range_with_len}, Elements.Contains-append_left}
use Rattle.std.{proofs.lemmas.List.Elements.Contains-append_right, specs.List.{flat_map, range_with_len, Contains}}
use Rattle.pair_rules.specs.{declared.pairs.Pair.Pair, Candidates.{AddsFirst, pair_with}}

-- what a piece contains, the whole contains
contains_piece : {X A : Type 0} (f : X → List A) (xs : List X) (k : ℕ) (d : X) (y : A) → k < length xs
    → Contains (f (get_or xs k d)) y → Contains (flat_map f xs) y
contains_piece f [] k d y lt h = absurd (omega (arith, lt))
contains_piece f (x ∷ xs) zero d y lt h = Contains-append_left (f x) (flat_map f xs) y h
contains_piece f (x ∷ xs) (suc k) d y lt h =
    Contains-append_right (f x) (flat_map f xs) y (contains_piece f xs k d y (omega (arith, lt)) h)

pub contains_piece_of : {A : Type 0} (f : ℕ → List A) (n k : ℕ) (y : A) → k < n → Contains (f k) y
    → Contains (flat_map f (range_with_len 0 n)) y
contains_piece_of f n k y lt h =
    let at : get_or (range_with_len 0 n) k 0 ≡ k = get_or-range_with_len 0 n k 0 lt ∙ zero-add k in
    contains_piece f (range_with_len 0 n) k 0 y (omega (arith, length-range_with_len 0 n))
    (subst (λ m. Contains (f m) y) (sym at) h)

-- the pair of a spacing that is there
pub contains_pair : (o : Option ℤ) (s : ℤ) (i j : ℕ) → o ≡ Some s
    → let p : Pair = record { i = i; j = j; s = s } in Contains (pair_with o i j) p
contains_pair o s i j e =
    let p : Pair = record { i = i; j = j; s = s } in
    let here : Contains (p ∷ []) p = (0, omega arith, refl) in
    subst (λ (q : Option ℤ). Contains (pair_with q i j) p) (sym e) here

-- the pieces of the first of some numbers come first
prefix_from : {A : Type 0} (f : ℕ → List A) (a m n : ℕ) → m ≤ n
    → (rest : List A) × (flat_map f (range_with_len a n) ≡ flat_map f (range_with_len a m) ++ rest)
prefix_from f a zero n le = (flat_map f (range_with_len a n), refl)
prefix_from f a (suc m) zero le = absurd (omega arith)
prefix_from f a (suc m) (suc n) le =
    let w = prefix_from f (a + 1) m n (omega arith) in
    (w.0, ap (λ zs. f a ++ zs) w.1 ∙ sym (append_assoc (f a) (flat_map f (range_with_len (a + 1) m)) w.0))

pub first_pieces : (f : ℕ → List Pair) (m n : ℕ) (old now : List Pair) → m ≤ n
    → now ≡ old ++ flat_map f (range_with_len 0 m) → AddsFirst (flat_map f (range_with_len 0 n)) old now
first_pieces f m n old now le is =
    let w = prefix_from f 0 m n le in
    record { first = flat_map f (range_with_len 0 m); rest = w.0; in_order = w.1; added = is }
