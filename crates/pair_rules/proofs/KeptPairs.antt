-- The kept pairs that are computed are exactly the kept ones.
use Rattle.std.proofs.Common.{◌≡◌, ◌≢◌, ℕ, ◌<◌, Bool, true, false, not, ◌&&◌, ℤ, pos, ◌+ℤ◌, ◌≤ℤ◌, List, length, All}
use Rattle.std.proofs.Common.{Option, Some, refl, sym, ap, ◌∙◌, subst, arith, get_or, zero-add}
use Rattle.std.proofs.lemmas.{Int.ints, Bool.{and_parts, not-true, eqb-true, eqb-false, true≢false}}
use Rattle.std.proofs.lemmas.List.{FromFn.{length-range_with_len, get_or-range_with_len}, Folds.list_any_at}
use Rattle.std.proofs.lemmas.List.Elements.{All-contains, All-contains_itself, All-filter, filter_passes}
use Rattle.std.specs.{Prelude.{int_le, ◌==◌, Contains}, List.{list_any, filter, range_with_len}}
use Rattle.lam_geom.specs.declared.boxes.Axis.{Axis}
use Rattle.rule_table.specs.declared.technology.Tech.{Tech}
use Rattle.sym_items.specs.{declared.items.{Item.Item, Coords.Coords}, Values.value_of, Transposed.values_along}
use Rattle.pair_rules.specs.{declared.pairs.Pair.Pair, Bound.item_at, Candidates.{spacing_at, item_numbers}}
use Rattle.pair_rules.specs.{Candidates.{candidates_of, high_end, low_end, Keeps}, Kept.{Shadows, IsKept, least_of}}
use Rattle.pair_rules.specs.Kept.{reaches, shadows, is_constant, is_kept, kept_of}
use Rattle.pair_rules.proofs.{FacingItems.{out_of_facing, candidate_faces}, Spacings.facing_bounds}
use Rattle.pair_rules.proofs.{PairLists.{found_number, of_filtered, all_candidates, is_candidate}, Pruning.reach_of}
use Rattle.pair_rules.proofs.Pruning.{kept_among, candidates_apart}

-- an item shadows a pair where the test says so
does_shadow : (axis : Axis) (t : Tech) (c : Coords) (items : List Item) (p : Pair) (k : ℕ)
    → shadows axis t c items p k ≡ true → Shadows axis t c items p k
does_shadow axis t c items p k e =
    let r = reach_of p.s (spacing_at axis t c items p.i k) (least_of axis items k) (spacing_at axis t c items k p.j)
    e in
    record {
      before = r.before;
      after = r.after;
      first = out_of_facing axis t c (item_at items p.i) (item_at items k) r.before r.is_before;
      second = out_of_facing axis t c (item_at items k) (item_at items p.j) r.after r.is_after;
      reaches = r.far;
    }

far_enough : (s before least after : ℤ) → s ≤ℤ ((before +ℤ least) +ℤ after)
    → int_le s ((before +ℤ least) +ℤ after) ≡ true
far_enough s before least after h = grind (arith, ints)

reaching : (s : ℤ) (o : Option ℤ) (least : ℤ) (q : Option ℤ) (before after : ℤ) → o ≡ Some before → q ≡ Some after
    → s ≤ℤ ((before +ℤ least) +ℤ after) → reaches s o least q ≡ true
reaching s o least q before after e f h = rw (e, f) (far_enough s before least after h)

pub test_shadows : (axis : Axis) (t : Tech) (c : Coords) (items : List Item) (p : Pair) (k : ℕ)
    → Shadows axis t c items p k → shadows axis t c items p k ≡ true
test_shadows axis t c items p k h =
    reaching p.s (spacing_at axis t c items p.i k) (least_of axis items k) (spacing_at axis t c items k p.j) h.before
    h.after
    (candidate_faces axis t c (item_at items p.i) (item_at items k) h.before h.first)
    (candidate_faces axis t c (item_at items k) (item_at items p.j) h.after h.second) h.reaches

-- a test that some number passes
pub any_number : (test : ℕ → Bool) (n k : ℕ) → k < n → test k ≡ true → list_any test (range_with_len 0 n) ≡ true
any_number test n k lt h =
    let at : get_or (range_with_len 0 n) k 0 ≡ k = get_or-range_with_len 0 n k 0 lt ∙ zero-add k in
    list_any_at test (range_with_len 0 n) k 0 (omega (arith, lt, length-range_with_len 0 n)) (ap test at ∙ h)

none_of : (a : Bool) → (a ≡ true → ⊥) → a ≡ false
none_of true h = absurd (h refl)
none_of false h = refl

differs : (m n : ℕ) → m ≢ n → (m == n) ≡ false
differs m n h = none_of (m == n) (λ e. h (eqb-true m n e))

neither : (a b : Bool) → a ≡ false → b ≡ false → (not a && not b) ≡ true
neither a b e f = rw (e, f) refl

-- a pair that passes the test is kept
pub kept_by_test : (axis : Axis) (t : Tech) (c : Coords) (items : List Item) (i j : ℕ) (s : ℤ) → i < length items
    → j < length items → spacing_at axis t c items i j ≡ Some s
    → let p : Pair = record { i = i; j = j; s = s } in is_kept axis t c items p ≡ true → IsKept axis t c items p
kept_by_test axis t c items i j s i_lt j_lt faces e =
    let p : Pair = record { i = i; j = j; s = s } in
    let parts = and_parts (not (is_constant axis items p))
    (not (list_any (shadows axis t c items p) (item_numbers items))) e in
    record {
      i_among = i_lt;
      j_among = j_lt;
      candidate = out_of_facing axis t c (item_at items i) (item_at items j) s faces;
      varies = eqb-false (high_end axis items i).var (low_end axis items j).var
          (not-true (is_constant axis items p) parts.0);
      unshadowed = λ k k_lt h.
          true≢false
          (sym (any_number (shadows axis t c items p) (length items) k k_lt (test_shadows axis t c items p k h))
          ∙ not-true (list_any (shadows axis t c items p) (item_numbers items)) parts.1);
    }

-- and a kept pair passes it
passes_test : (axis : Axis) (t : Tech) (c : Coords) (items : List Item) (p : Pair) → IsKept axis t c items p
    → is_kept axis t c items p ≡ true
passes_test axis t c items p h =
    neither (is_constant axis items p) (list_any (shadows axis t c items p) (item_numbers items))
    (differs (high_end axis items p.i).var (low_end axis items p.j).var h.varies)
    (none_of (list_any (shadows axis t c items p) (item_numbers items)) (λ e.
    let w = found_number (shadows axis t c items p) (length items) e in h.unshadowed w.0 w.1
    (does_shadow axis t c items p w.0 w.2)))

each_is_kept : (axis : Axis) (t : Tech) (c : Coords) (items : List Item)
    → All (IsKept axis t c items) (kept_of axis t c items)
each_is_kept axis t c items =
    let test : Pair → Bool = is_kept axis t c items in
    let all = candidates_of axis t c items in
    let P : Pair → Type 0 = λ p. is_kept axis t c items p ≡ true → IsKept axis t c items p in
    let kept = All-filter test P all (all_candidates axis t c items P (kept_by_test axis t c items)) in
    let passes = filter_passes test all in
    λ k d lt. kept k d lt (passes k d lt)

kept_are_all : (axis : Axis) (t : Tech) (c : Coords) (items : List Item) (p : Pair) → IsKept axis t c items p
    → Contains (kept_of axis t c items) p
kept_are_all axis t c items p h =
    let test : Pair → Bool = is_kept axis t c items in
    let all = candidates_of axis t c items in
    let K : Pair → Type 0 = λ q. is_kept axis t c items q ≡ true → Contains (kept_of axis t c items) q in
    All-contains K all p
    (of_filtered (Contains (kept_of axis t c items)) test all (All-contains_itself (filter test all)))
    (is_candidate axis t c items p.i p.j p.s h.i_among h.j_among
    (candidate_faces axis t c (item_at items p.i) (item_at items p.j) p.s h.candidate))
    (passes_test axis t c items p h)

-- their spacings
kept_spacings : (axis : Axis) (t : Tech) (c : Coords) (items : List Item)
    → All (λ (p : Pair). (pos 1 ≤ℤ p.s) × (p.s ≤ℤ pos 4096)) (kept_of axis t c items)
kept_spacings axis t c items =
    let P : Pair → Type 0 = λ p. (pos 1 ≤ℤ p.s) × (p.s ≤ℤ pos 4096) in
    kept_among axis t c items P
    (all_candidates axis t c items P
    (λ i j s i_lt j_lt e. facing_bounds axis t c (item_at items i) (item_at items j) s e))

-- all that is told of the list of kept pairs
pub record AreKept (axis : Axis) (t : Tech) (c : Coords) (items : List Item) (ps : List Pair) : Type 0 where
  pub each : All (IsKept axis t c items) ps
  pub all : (p : Pair) → IsKept axis t c items p → Contains ps p
  pub spacings : All (λ (p : Pair). (pos 1 ≤ℤ p.s) × (p.s ≤ℤ pos 4096)) ps
  pub apart : All (Keeps axis (value_of (values_along axis c)) items) ps

pub are_kept : (axis : Axis) (t : Tech) (c : Coords) (items : List Item) (ps : List Pair)
    → ps ≡ kept_of axis t c items → AreKept axis t c items ps
are_kept axis t c items ps is =
    subst (AreKept axis t c items) (sym is) (record {
      each = each_is_kept axis t c items;
      all = kept_are_all axis t c items;
      spacings = kept_spacings axis t c items;
      apart = kept_among axis t c items (Keeps axis (value_of (values_along axis c)) items)
          (candidates_apart axis t c items);
    })
