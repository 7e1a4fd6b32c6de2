-- The list of kept pairs out of their numbers.
use Rattle.std.proofs.Common.{◌≡◌, ℕ, ◌≤◌, ℤ, List, length, get_or, Option, Some, None, refl, sym, ◌∙◌}
use Rattle.std.proofs.Common.{inl, inr, subst, arith}
use Rattle.std.proofs.lemmas.{Option.same_Some, List.Elements.{All-contains, Contains-get_or}}
use Rattle.std.specs.List.{All, AllPairs, Contains, flat_map}
use Rattle.lam_geom.specs.declared.boxes.Axis.{Axis}
use Rattle.rule_table.specs.declared.technology.Tech.{Tech}
use Rattle.sym_items.specs.declared.items.{Item.Item, Coords.Coords}
use Rattle.pair_set.specs.Sets.{IsBefore}
use Rattle.pair_rules.specs.{declared.pairs.Pair.Pair, Bound.{item_at, bound_spacing}, Kept.{IsKept, kept_of}}
use Rattle.pair_rules.specs.Candidates.{spacing_at, pair_with}
use Rattle.pair_rules.proofs.{KeptPairs.are_kept, FacingItems.candidate_faces, Pieces.contains_pair}
use Rattle.shadow_prune.specs.KeptNumbers.{IsKeptNumbers, PairBefore, pairs_of_numbers}
use Rattle.shadow_prune.proofs.SameLists.{same_list, no_longer}
use Rattle.shadow_prune.proofs.Listed.{all_pieces, in_piece, at_least_one, at_most_one}
use Rattle.shadow_prune.proofs.KeptOrder.{at_pair, kept_in_order, listed_in_order}

one_way : (u v : Pair) → PairBefore u v → PairBefore v u → ⊥
one_way u v (inl a) (inl b) = omega (arith, a, b)
one_way u v (inl a) (inr b) = let e = b.0 in omega (arith, a, e)
one_way u v (inr a) (inl b) = let e = a.0 in omega (arith, e, b)
one_way u v (inr a) (inr b) = let l = a.1 in let m = b.1 in omega (arith, l, m)

at_most : (o : Option ℤ) (i j : ℕ) → length (pair_with o i j) ≤ 1
at_most None i j = omega arith
at_most (Some s) i j = omega arith

at_least : (o : Option ℤ) (s : ℤ) (i j : ℕ) → o ≡ Some s → 1 ≤ length (pair_with o i j)
at_least o s i j e = rw e (omega arith)

-- the spacing of two items of a kept pair is that which they are bound with
pub bound_where_kept : (axis : Axis) (t : Tech) (c : Coords) (items : List Item) (n : ℕ × ℕ)
    → IsKeptNumbers axis t c items n
    → spacing_at axis t c items n.1 n.0 ≡ bound_spacing t (item_at items n.1) (item_at items n.0)
bound_where_kept axis t c items n w =
    candidate_faces axis t c (item_at items n.1) (item_at items n.0) w.s w.kept.candidate ∙ sym w.kept.candidate.bound

module _ (axis : Axis) (t : Tech) (c : Coords) (items : List Item) (numbers : List (ℕ × ℕ)) where
  -- there are no more pairs than numbers
  pub few_listed : length (flat_map (pairs_of_numbers axis t c items) numbers) ≤ length numbers
  few_listed =
      at_most_one (pairs_of_numbers axis t c items) (λ n. at_most (spacing_at axis t c items n.1 n.0) n.1 n.0) numbers

  module _ (each : (n : ℕ × ℕ) → Contains numbers n → IsKeptNumbers axis t c items n) where
    faces : (n : ℕ × ℕ) (w : IsKeptNumbers axis t c items n) → spacing_at axis t c items n.1 n.0 ≡ Some w.s
    faces n w = candidate_faces axis t c (item_at items n.1) (item_at items n.0) w.s w.kept.candidate

    pub all_kept : All (IsKept axis t c items) (flat_map (pairs_of_numbers axis t c items) numbers)
    all_kept =
        all_pieces (IsKept axis t c items) (pairs_of_numbers axis t c items) numbers (λ k d lt.
        let n = get_or numbers k d in
        let w = each n (Contains-get_or numbers k d lt) in
        at_pair (IsKept axis t c items) (spacing_at axis t c items n.1 n.0) n.1 n.0 (λ s e.
        let same : w.s ≡ s = same_Some w.s s (sym (faces n w) ∙ e) in
        subst (λ (z : ℤ). let p : Pair = record { i = n.1; j = n.0; s = z } in IsKept axis t c items p) same w.kept))

    listed_are_kept : (p : Pair) → Contains (flat_map (pairs_of_numbers axis t c items) numbers) p
        → Contains (kept_of axis t c items) p
    listed_are_kept p w =
        (are_kept axis t c items (kept_of axis t c items) refl).all p
        (All-contains (IsKept axis t c items) (flat_map (pairs_of_numbers axis t c items) numbers) p all_kept w)

    -- numbers of kept pairs in order are no more than there are kept pairs
    pub no_more_than_kept : AllPairs IsBefore numbers → length numbers ≤ length (kept_of axis t c items)
    no_more_than_kept in_order =
        let each_has : All (λ n. 1 ≤ length (pairs_of_numbers axis t c items n)) numbers = λ k d lt.
        let n = get_or numbers k d in
        let w = each n (Contains-get_or numbers k d lt) in
        at_least (spacing_at axis t c items n.1 n.0) w.s n.1 n.0 (faces n w) in
        let listed = at_least_one (pairs_of_numbers axis t c items) numbers each_has in
        let less = no_longer PairBefore one_way (kept_of axis t c items)
        (flat_map (pairs_of_numbers axis t c items) numbers) (listed_in_order axis t c items numbers in_order)
        (kept_in_order axis t c items) listed_are_kept in
        omega (arith, listed, less)

    -- those of all kept pairs give the list
    pub is_kept_list : AllPairs IsBefore numbers → ((p : Pair) → IsKept axis t c items p → Contains numbers (p.j, p.i))
        → flat_map (pairs_of_numbers axis t c items) numbers ≡ kept_of axis t c items
    is_kept_list in_order all =
        same_list PairBefore one_way (flat_map (pairs_of_numbers axis t c items) numbers) (kept_of axis t c items)
        (listed_in_order axis t c items numbers in_order) (kept_in_order axis t c items) listed_are_kept
        (λ p w.
        let kept = All-contains (IsKept axis t c items) (kept_of axis t c items) p
        (are_kept axis t c items (kept_of axis t c items) refl).each w in
        in_piece (pairs_of_numbers axis t c items) numbers (p.j, p.i) p (all p kept)
        (contains_pair (spacing_at axis t c items p.i p.j) p.s p.i p.j
        (candidate_faces axis t c (item_at items p.i) (item_at items p.j) p.s kept.candidate)))
