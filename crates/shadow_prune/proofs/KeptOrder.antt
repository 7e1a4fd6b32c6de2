-- The order of the kept pairs.
use Rattle.std.proofs.Common.{◌≡◌, ℕ, ◌<◌, ℤ, List, [], length, get_or, Option, Some, None, refl, inl, inr, arith}
use Rattle.std.proofs.lemmas.List.{Elements.{All-nil, All-cons}, Kept.AllPairs-filter}
use Rattle.std.specs.List.{All, AllPairs, flat_map}
use Rattle.lam_geom.specs.declared.boxes.Axis.{Axis}
use Rattle.rule_table.specs.declared.technology.Tech.{Tech}
use Rattle.sym_items.specs.declared.items.{Item.Item, Coords.Coords}
use Rattle.pair_set.specs.Sets.{IsBefore}
use Rattle.pair_rules.specs.{declared.pairs.Pair.Pair, Kept.{is_kept, kept_of}}
use Rattle.pair_rules.specs.Candidates.{spacing_at, pair_with, pairs_at, candidates_to, candidates_of, item_numbers}
use Rattle.shadow_prune.specs.KeptNumbers.{PairBefore, pairs_of_numbers}
use Rattle.shadow_prune.proofs.Listed.{all_pieces, ordered_pieces, numbers_in_order}

-- what holds of a pair with a spacing that is there
pub at_pair : (P : Pair → Type 0) (o : Option ℤ) (i j : ℕ)
    → ((s : ℤ) → o ≡ Some s → let p : Pair = record { i = i; j = j; s = s } in P p) → All P (pair_with o i j)
at_pair P None i j h = All-nil P
at_pair P (Some s) i j h = All-cons P _ [] (h s refl) (All-nil P)

alone : (R : Pair → Pair → Type 0) (o : Option ℤ) (i j : ℕ) → AllPairs R (pair_with o i j)
alone R None i j = λ k m d lt le. absurd (omega (arith, le))
alone R (Some s) i j = λ k m d lt le. absurd (omega (arith, lt, le))

-- the pairs of two pieces
across : (o r : Option ℤ) (i j k m : ℕ) → IsBefore (j, i) (m, k)
    → All (λ p. All (PairBefore p) (pair_with r k m)) (pair_with o i j)
across o r i j k m before =
    at_pair (λ p. All (PairBefore p) (pair_with r k m)) o i j (λ s _.
    let p : Pair = record { i = i; j = j; s = s } in at_pair (PairBefore p) r k m (λ _ _. before))

module _ (axis : Axis) (t : Tech) (c : Coords) (items : List Item) where
  to_one_in_order : (j : ℕ) → AllPairs PairBefore (candidates_to axis t c items j)
  to_one_in_order j =
      ordered_pieces (λ i k. i < k) PairBefore (pairs_at axis t c items j)
      (λ i. alone PairBefore (spacing_at axis t c items i j) i j)
      (λ i k lt. across (spacing_at axis t c items i j) (spacing_at axis t c items k j) i j k j (inr (refl, lt)))
      (item_numbers items) (numbers_in_order 0 (length items))

  later_items : (j m : ℕ) → j < m
      → All (λ p. All (PairBefore p) (candidates_to axis t c items m)) (candidates_to axis t c items j)
  later_items j m lt =
      all_pieces (λ p. All (PairBefore p) (candidates_to axis t c items m)) (pairs_at axis t c items j)
      (item_numbers items) (λ a d _.
      let i = get_or (item_numbers items) a d in
      at_pair (λ p. All (PairBefore p) (candidates_to axis t c items m)) (spacing_at axis t c items i j) i j (λ s _.
      let p : Pair = record { i = i; j = j; s = s } in
      all_pieces (PairBefore p) (pairs_at axis t c items m) (item_numbers items) (λ b e _.
      let k = get_or (item_numbers items) b e in
      at_pair (PairBefore p) (spacing_at axis t c items k m) k m (λ _ _. inl lt))))

  candidates_in_order : AllPairs PairBefore (candidates_of axis t c items)
  candidates_in_order =
      ordered_pieces (λ j m. j < m) PairBefore (candidates_to axis t c items) to_one_in_order later_items
      (item_numbers items) (numbers_in_order 0 (length items))

  pub kept_in_order : AllPairs PairBefore (kept_of axis t c items)
  kept_in_order =
      AllPairs-filter PairBefore (is_kept axis t c items) (candidates_of axis t c items) candidates_in_order

  -- pairs of numbers in order give pairs in order
  pub listed_in_order : (numbers : List (ℕ × ℕ)) → AllPairs IsBefore numbers
      → AllPairs PairBefore (flat_map (pairs_of_numbers axis t c items) numbers)
  listed_in_order numbers h =
      ordered_pieces IsBefore PairBefore (pairs_of_numbers axis t c items)
      (λ n. alone PairBefore (spacing_at axis t c items n.1 n.0) n.1 n.0)
      (λ n m before. across (spacing_at axis t c items n.1 n.0) (spacing_at axis t c items m.1 m.0) n.1 n.0 m.1 m.0
      before) numbers h
