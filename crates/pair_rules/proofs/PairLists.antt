-- Lists of candidates and of kept pairs, pair by pair.
use Rattle.std.proofs.Common.{◌≡◌, ℕ, zero, suc, ◌+◌, ◌<◌, ◌≤◌, Bool, true, false, cond, ℤ, List, [], ◌∷◌, length, All}
use Rattle.std.proofs.{Common.{Option, Some, None, refl, inl, inr, arith}, lemmas.Bool.{cases_Bool, false≢true}}
use Rattle.std.proofs.lemmas.List.Elements.{All-nil, All-cons, All-head, All-tail, All-append}
use Rattle.std.specs.{Prelude.Contains, List.{flat_map, filter, list_any, range_with_len}}
use Rattle.lam_geom.specs.declared.boxes.Axis.{Axis}
use Rattle.rule_table.specs.declared.technology.Tech.{Tech}
use Rattle.sym_items.specs.declared.items.{Item.Item, Coords.Coords}
use Rattle.pair_rules.specs.{declared.pairs.Pair.Pair, Candidates.{spacing_at, pair_with, pairs_at, candidates_to}}
use Rattle.pair_rules.{specs.Candidates.candidates_of, proofs.Pieces.{contains_piece_of, contains_pair}}

-- ---- lists

-- what holds of the pieces of some numbers, of the whole
pub all_pieces_from : {A : Type 0} (P : A → Type 0) (f : ℕ → List A) (a n : ℕ)
    → ((k : ℕ) → a ≤ k → k < a + n → All P (f k)) → All P (flat_map f (range_with_len a n))
all_pieces_from P f a zero h = All-nil P
all_pieces_from P f a (suc n) h =
    All-append P (f a) (flat_map f (range_with_len (a + 1) n)) (h a (omega arith) (omega arith))
    (all_pieces_from P f (a + 1) n (λ k ge lt. h k (omega arith) (omega arith)))

-- the number that passes a test
found_from : (test : ℕ → Bool) (a n : ℕ) → list_any test (range_with_len a n) ≡ true
    → (k : ℕ) × (k < a + n) × (test k ≡ true)
found_from test a zero e = cc
found_from test a (suc n) e =
    elim (cases_Bool (test a)) [
      | inl t ↦ (a, omega arith, t)
      | inr f ↦
          let rest : list_any test (range_with_len (a + 1) n) ≡ true = rw f at e in
          let w = found_from test (a + 1) n rest in
          let lt = w.1 in
          (w.0, omega arith, w.2)
    ]

pub found_number : (test : ℕ → Bool) (n : ℕ) → list_any test (range_with_len 0 n) ≡ true
    → (k : ℕ) × (k < n) × (test k ≡ true)
found_number test n e = let w = found_from test 0 n e in let lt = w.1 in (w.0, omega arith, w.2)

head_left : {A : Type 0} (P : A → Type 0) (q : Bool) (x : A) (xs : List A) → All P (cond q (x ∷ xs) xs)
    → (q ≡ true → P x) × All P xs
head_left P true x xs h = (λ _. All-head P x xs h, All-tail P x xs h)
head_left P false x xs h = (λ e. absurd (false≢true e), h)

-- what holds of those that are left by a test, of each that passes it
pub of_filtered : {A : Type 0} (P : A → Type 0) (test : A → Bool) (xs : List A) → All P (filter test xs)
    → All (λ x. test x ≡ true → P x) xs
of_filtered P test [] h = All-nil (λ x. test x ≡ true → P x)
of_filtered P test (x ∷ xs) h =
    let parts = head_left P (test x) x (filter test xs) h in
    All-cons (λ y. test y ≡ true → P y) x xs parts.0 (of_filtered P test xs parts.1)

-- ---- candidates

-- what holds of each two items that face each other, of all candidates
pub all_candidates : (axis : Axis) (t : Tech) (c : Coords) (items : List Item) (P : Pair → Type 0)
    → ((i j : ℕ) (s : ℤ) → i < length items → j < length items → spacing_at axis t c items i j ≡ Some s
    → P (record { i = i; j = j; s = s }))
    → All P (candidates_of axis t c items)
all_candidates axis t c items P h =
    all_pieces_from P (candidates_to axis t c items) 0 (length items) (λ j ge j_lt.
    all_pieces_from P (pairs_at axis t c items j) 0 (length items) (λ i ge i_lt.
    one_pair (spacing_at axis t c items i j) i j (λ s e. h i j s (omega arith) (omega arith) e)))
  where
    one_pair : (o : Option ℤ) (i j : ℕ) → ((s : ℤ) → o ≡ Some s → P (record { i = i; j = j; s = s }))
        → All P (pair_with o i j)
    one_pair None i j h = All-nil P
    one_pair (Some s) i j h = All-cons P (record { i = i; j = j; s = s }) [] (h s refl) (All-nil P)

-- two items that face each other are a candidate
pub is_candidate : (axis : Axis) (t : Tech) (c : Coords) (items : List Item) (i j : ℕ) (s : ℤ) → i < length items
    → j < length items → spacing_at axis t c items i j ≡ Some s
    → let p : Pair = record { i = i; j = j; s = s } in Contains (candidates_of axis t c items) p
is_candidate axis t c items i j s i_lt j_lt e =
    let p : Pair = record { i = i; j = j; s = s } in
    contains_piece_of (candidates_to axis t c items) (length items) j p j_lt
    (contains_piece_of (pairs_at axis t c items j) (length items) i p i_lt
    (contains_pair (spacing_at axis t c items i j) s i j e))
