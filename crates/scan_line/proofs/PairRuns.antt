-- The candidates that end at one item, in the order of any list of items.
use Rattle.std.proofs.Common.{◌≡◌, ℕ, zero, suc, ◌+◌, ◌<◌, ℤ, List, [], ◌∷◌, ◌++◌, length, get_or, take, Option, Some}
use Rattle.std.proofs.Common.{None, refl, sym, ap, ◌∙◌, subst, zero-add, arith}
use Rattle.std.proofs.lemmas.List.{flat_map_more, take_more, FromFn.{length-range_with_len, get_or-range_with_len}}
use Rattle.std.proofs.lemmas.List.{Elements.{All-nil, All-cons, All-contains}, Kept.AllPairs-cons}
use Rattle.std.specs.List.{All, AllPairs, Any, Contains, flat_map, range_with_len}
use Rattle.list_facts.proofs.Some.{any_flat_map}
use Rattle.lam_geom.specs.declared.boxes.Axis.{Axis}
use Rattle.rule_table.specs.declared.technology.Tech.{Tech}
use Rattle.sym_items.specs.declared.items.{Item.Item, Coords.Coords}
use Rattle.pair_rules.specs.{declared.pairs.Pair.Pair, Candidates.{spacing_at, pair_with, pairs_at, candidates_to}}
use Rattle.pair_rules.proofs.Pieces.{contains_piece_of, contains_pair}

-- the pairs of some items with item j, in their order
abbrev pub pairs_of : Axis → Tech → Coords → List Item → ℕ → List ℕ → List Pair
pairs_of axis t c items j xs = flat_map (pairs_at axis t c items j) xs

-- what holds of one pair more
more : (P : Pair → Type 0) (o : Option ℤ) (i j : ℕ) (ps : List Pair)
    → ((s : ℤ) → o ≡ Some s → P (record { i = i; j = j; s = s })) → All P ps → All P (pair_with o i j ++ ps)
more P None i j ps h rest = rest
more P (Some s) i j ps h rest = All-cons P (record { i = i; j = j; s = s }) ps (h s refl) rest

-- what holds of each item that faces item j, of all pairs
pub all_pairs_of : (axis : Axis) (t : Tech) (c : Coords) (items : List Item) (j : ℕ) (P : Pair → Type 0) (xs : List ℕ)
    → ((k : ℕ) → k < length xs → (s : ℤ) → spacing_at axis t c items (get_or xs k 0) j ≡ Some s
    → P (record { i = get_or xs k 0; j = j; s = s })) → All P (pairs_of axis t c items j xs)
all_pairs_of axis t c items j P [] h = All-nil P
all_pairs_of axis t c items j P (x ∷ xs) h =
    more P (spacing_at axis t c items x j) x j (pairs_of axis t c items j xs) (h zero (omega arith))
    (all_pairs_of axis t c items j P xs (λ k lt. h (suc k) (omega arith)))

more_in_order : (R : Pair → Pair → Type 0) (o : Option ℤ) (i j : ℕ) (ps : List Pair)
    → ((s : ℤ) → o ≡ Some s → All (R (record { i = i; j = j; s = s })) ps) → AllPairs R ps
    → AllPairs R (pair_with o i j ++ ps)
more_in_order R None i j ps h rest = rest
more_in_order R (Some s) i j ps h rest = AllPairs-cons R (record { i = i; j = j; s = s }) ps (h s refl) rest

-- they stand as their items do
pub in_order_of : (axis : Axis) (t : Tech) (c : Coords) (items : List Item) (j : ℕ) (R : ℕ → ℕ → Type 0) (xs : List ℕ)
    → AllPairs R xs → AllPairs (λ (p q : Pair). R p.i q.i) (pairs_of axis t c items j xs)
in_order_of axis t c items j R [] h = λ m n d less lt. absurd (omega (arith, lt))
in_order_of axis t c items j R (x ∷ xs) h =
    more_in_order (λ p q. R p.i q.i) (spacing_at axis t c items x j) x j (pairs_of axis t c items j xs)
    (λ s e. all_pairs_of axis t c items j (λ q. R x q.i) xs (λ k lt _ _. h zero (suc k) 0 (omega arith) (omega arith)))
    (in_order_of axis t c items j R xs (λ m n d less lt. h (suc m) (suc n) d (omega arith) (omega arith)))

-- and each item that faces item j has its pair there
pub contains_pair_of : (axis : Axis) (t : Tech) (c : Coords) (items : List Item) (j : ℕ) (xs : List ℕ) (i : ℕ) (s : ℤ)
    → Contains xs i → spacing_at axis t c items i j ≡ Some s
    → let p : Pair = record { i = i; j = j; s = s } in Contains (pairs_of axis t c items j xs) p
contains_pair_of axis t c items j xs i s among faces =
    let p : Pair = record { i = i; j = j; s = s } in
    let f = pairs_at axis t c items j in
    let here = contains_pair (spacing_at axis t c items i j) s i j faces in
    let found : Any (λ (q : Pair). q ≡ p) (flat_map f xs) =
    any_flat_map (λ (x : ℕ). x ≡ i) (λ (q : Pair). q ≡ p) f xs
    (λ x same. subst (λ (y : ℕ). Any (λ (q : Pair). q ≡ p) (f y)) (sym same) (here.0, p, here.1, here.2, refl))
    (among.0, i, among.1, among.2, refl) in
    subst (Contains (flat_map f xs)) found.4 (found.0, found.2, found.3)

-- one item more: its pair is added
pub one_more : (axis : Axis) (t : Tech) (c : Coords) (items : List Item) (j : ℕ) (xs : List ℕ) (n i : ℕ)
    (now next : List Pair) → n < length xs → i ≡ get_or xs n i
    → now ≡ pairs_of axis t c items j (take n xs) → next ≡ now ++ pairs_at axis t c items j i
    → next ≡ pairs_of axis t c items j (take (n + 1) xs)
one_more axis t c items j xs n i now next lt is was added =
    let f = pairs_at axis t c items j in
    let more : take (n + 1) xs ≡ take n xs ++ i ∷ [] = take_more xs n i lt ∙ ap (λ k. take n xs ++ k ∷ []) (sym is) in
    added ∙ (ap (λ ps. ps ++ f i) was ∙ (flat_map_more f [] (take n xs) i ∙ ap (flat_map f) (sym more)))

-- ---- all candidates

-- a pair of one of the items with item j
pub record IsPairTo (axis : Axis) (t : Tech) (c : Coords) (items : List Item) (j : ℕ) (p : Pair) : Type 0 where
  pub ends : p.j ≡ j
  pub among : p.i < length items
  pub faces : spacing_at axis t c items p.i j ≡ Some p.s

pub all_to : (axis : Axis) (t : Tech) (c : Coords) (items : List Item) (j : ℕ)
    → All (IsPairTo axis t c items j) (candidates_to axis t c items j)
all_to axis t c items j =
    let n = length items in
    all_pairs_of axis t c items j (IsPairTo axis t c items j) (range_with_len 0 n)
    (λ k lt s faces.
    let k_lt : k < n = omega (arith, lt, length-range_with_len 0 n) in
    let at : get_or (range_with_len 0 n) k 0 ≡ k = get_or-range_with_len 0 n k 0 k_lt ∙ zero-add k in
    record { ends = refl; among = omega (arith, at, k_lt); faces = faces })

pub pair_to : (axis : Axis) (t : Tech) (c : Coords) (items : List Item) (j : ℕ) (p : Pair)
    → Contains (candidates_to axis t c items j) p → IsPairTo axis t c items j p
pair_to axis t c items j p among =
    All-contains (IsPairTo axis t c items j) (candidates_to axis t c items j) p (all_to axis t c items j) among

pub candidate_of : (axis : Axis) (t : Tech) (c : Coords) (items : List Item) (j i : ℕ) (s : ℤ) → i < length items
    → spacing_at axis t c items i j ≡ Some s
    → let p : Pair = record { i = i; j = j; s = s } in Contains (candidates_to axis t c items j) p
candidate_of axis t c items j i s i_lt faces =
    let p : Pair = record { i = i; j = j; s = s } in
    contains_piece_of (pairs_at axis t c items j) (length items) i p i_lt
    (contains_pair (spacing_at axis t c items i j) s i j faces)
