-- Pruning loses nothing: by induction on how far the ends of a candidate lie apart in the layout.
use Rattle.std.proofs.Common.{◌≡◌, ◌≢◌, ℕ, zero, suc, ◌<◌, Bool, true, false, not, ◌&&◌, ℤ, pos, negsuc, ◌+ℤ◌, ◌-ℤ◌}
use Rattle.std.proofs.Common.{◌≤ℤ◌, ◌<ℤ◌, ◌⊎◌, inl, inr, List, length, All, Option, Some, None, refl, ap, arith}
use Rattle.std.proofs.lemmas.{Int.ints, Bool.{cases_Bool, and_parts, not-true, eqb-true, eqb-false}}
use Rattle.std.proofs.lemmas.List.Elements.{All-contains, All-weaker, All-filter, filter_passes}
use Rattle.std.specs.{Prelude.int_le, List.list_any}
use Rattle.lam_geom.specs.declared.boxes.Axis.{Axis, TheVariants.{X, Y}}
use Rattle.rule_table.specs.declared.technology.Tech.{Tech}
use Rattle.sym_items.specs.declared.items.{End.End, Item.Item, Coords.Coords}
use Rattle.sym_items.specs.{Boxes.HasBox, Values.{value_of, end_under}, Transposed.{item_along, coords_along}}
use Rattle.pair_rules.specs.{declared.pairs.Pair.Pair, Bound.{item_at, no_item}, Candidates.{IsCandidate, spacing_at}}
use Rattle.pair_rules.specs.{Candidates.{item_numbers, candidates_of, high_end, low_end, Keeps}, Kept.least_of}
use Rattle.pair_rules.specs.{Kept.{reaches, shadows, is_constant, is_kept, kept_of}, Pruning.LosesNothing}
use Rattle.pair_rules.proofs.{FacingItems.out_of_facing, Spacings.facing_bounds, PairLists.{found_number, of_filtered}}
use Rattle.pair_rules.proofs.PairLists.{all_candidates, is_candidate}

-- ---- over plain numbers

-- What is known of n items along an axis: the spacing of each two that face each other, where their ends lie in the
-- layout, their least extents, and what shows of two items and a distance: it shows of two through a third, and of
-- those that no item shadows.
pub record AreEnds (n : ℕ) (spacing : ℕ → ℕ → Option ℤ) (low high least : ℕ → ℤ) (Shows : ℕ → ℕ → ℤ → Type 0) : Type
    0 where
  pub ordered : (k : ℕ) → k < n → low k ≤ℤ high k
  pub positive : (i j : ℕ) (s : ℤ) → spacing i j ≡ Some s → pos 1 ≤ℤ s
  pub apart : (i j : ℕ) (s : ℤ) → spacing i j ≡ Some s → (high i +ℤ s) ≤ℤ low j
  pub through : (i k j : ℕ) (a b s : ℤ) → k < n → Shows i k a → Shows k j b → s ≤ℤ ((a +ℤ least k) +ℤ b) → Shows i j s
  pub settled : (i j : ℕ) (s : ℤ) → i < n → j < n → spacing i j ≡ Some s
      → Shows i j s ⊎ ((k : ℕ) × (k < n) × (reaches s (spacing i k) (least k) (spacing k j) ≡ true))

-- two spacings that reach as far as a third
pub record Reach (s : ℤ) (first : Option ℤ) (least : ℤ) (second : Option ℤ) : Type 0 where
  pub before : ℤ
  pub after : ℤ
  pub is_before : first ≡ Some before
  pub is_after : second ≡ Some after
  pub far : s ≤ℤ ((before +ℤ least) +ℤ after)

at_most : (a b : ℤ) → int_le a b ≡ true → a ≤ℤ b
at_most a b e = grind (arith, ints)

pub reach_of : (s : ℤ) (first : Option ℤ) (least : ℤ) (second : Option ℤ) → reaches s first least second ≡ true
    → Reach s first least second
reach_of s None least second e = cc
reach_of s (Some b) least None e = cc
reach_of s (Some b) least (Some a) e =
    record { before = b; after = a; is_before = refl; is_after = refl; far = at_most s ((b +ℤ least) +ℤ a) e }

-- of two that lie less far apart in the layout than some number
shows_below : (n : ℕ) (spacing : ℕ → ℕ → Option ℤ) (low high least : ℕ → ℤ) (Shows : ℕ → ℕ → ℤ → Type 0)
    → AreEnds n spacing low high least Shows
    → (m i j : ℕ) (s : ℤ) → i < n → j < n → spacing i j ≡ Some s → (low j -ℤ high i) <ℤ pos m → Shows i j s
shows_below n spacing low high least Shows known zero i j s i_lt j_lt e near =
    let one = known.positive i j s e in
    let apart = known.apart i j s e in
    absurd (omega (arith, ints, one, apart, near))
shows_below n spacing low high least Shows known (suc m) i j s i_lt j_lt e near =
    elim (known.settled i j s i_lt j_lt e) [
      | inl shows ↦ shows
      | inr w ↦
          let k = w.0 in
          let k_lt = w.1 in
          let r = reach_of s (spacing i k) (least k) (spacing k j) w.2 in
          let before_one = known.positive i k r.before r.is_before in
          let after_one = known.positive k j r.after r.is_after in
          let before_apart = known.apart i k r.before r.is_before in
          let after_apart = known.apart k j r.after r.is_after in
          let ordered = known.ordered k k_lt in
          let first = shows_below n spacing low high least Shows known m i k r.before i_lt k_lt r.is_before
          (omega (arith, ints, near, after_one, after_apart, ordered)) in
          let second = shows_below n spacing low high least Shows known m k j r.after k_lt j_lt r.is_after
          (omega (arith, ints, near, before_one, before_apart, ordered)) in
          known.through i k j r.before r.after s k_lt first second r.far
    ]

-- a number above an integer
above : (z : ℤ) → (m : ℕ) × (z <ℤ pos m)
above (pos m) = (suc m, omega (arith, ints))
above (negsuc m) = (0, omega (arith, ints))

pub shows_of_all : (n : ℕ) (spacing : ℕ → ℕ → Option ℤ) (low high least : ℕ → ℤ) (Shows : ℕ → ℕ → ℤ → Type 0)
    → AreEnds n spacing low high least Shows
    → (i j : ℕ) (s : ℤ) → i < n → j < n → spacing i j ≡ Some s → Shows i j s
shows_of_all n spacing low high least Shows known i j s i_lt j_lt e =
    let top = above (low j -ℤ high i) in
    shows_below n spacing low high least Shows known top.0 i j s i_lt j_lt e top.1

-- ---- of the items

-- where the ends of an item lie along an axis under some values
abbrev low_of : Axis → (ℕ → ℤ) → List Item → ℕ → ℤ
low_of axis x items k = end_under x (low_end axis items k)

abbrev high_of : Axis → (ℕ → ℤ) → List Item → ℕ → ℤ
high_of axis x items k = end_under x (high_end axis items k)

-- the values of a layout on an axis
abbrev layout_of : Axis → Coords → ℕ → ℤ
layout_of axis c = value_of (coords_along axis c).x

ends_ordered : (axis : Axis) (c : Coords) (item : Item) → HasBox c item
    → end_under (layout_of axis c) (item_along axis item).xl ≤ℤ end_under (layout_of axis c) (item_along axis item).xh
ends_ordered X c item box = box.x.ordered
ends_ordered Y c item box = box.y.ordered

-- what a candidate keeps in the layout
candidate_apart : (axis : Axis) (t : Tech) (c : Coords) (a b : Item) (s : ℤ) → IsCandidate axis t c a b s
    → (end_under (layout_of axis c) (item_along axis a).xh +ℤ s) ≤ℤ end_under (layout_of axis c) (item_along axis b).xl
candidate_apart X t c a b s h = h.apart
candidate_apart Y t c a b s h = h.apart

stands_apart : (axis : Axis) (t : Tech) (c : Coords) (items : List Item) (i j : ℕ) (s : ℤ)
    → spacing_at axis t c items i j ≡ Some s
    → (pos 1 ≤ℤ s) × ((high_of axis (layout_of axis c) items i +ℤ s) ≤ℤ low_of axis (layout_of axis c) items j)
stands_apart axis t c items i j s e =
    let a = item_at items i in
    let b = item_at items j in
    ((facing_bounds axis t c a b s e).0, candidate_apart axis t c a b s (out_of_facing axis t c a b s e))

-- ends on one variable are as far apart under any values
constant_keeps : (v x : ℕ → ℤ) (high low : End) (s : ℤ) → high.var ≡ low.var
    → (end_under v high +ℤ s) ≤ℤ end_under v low → s ≤ℤ (end_under x low -ℤ end_under x high)
constant_keeps v x high low s same apart =
    let before : v high.var ≡ v low.var = ap v same in
    let after : x high.var ≡ x low.var = ap x same in
    omega (arith, ints, before, after, apart)

both_not : (a b : Bool) → a ≡ false → b ≡ false → (not a && not b) ≡ true
both_not a b e f = rw e (rw f refl)

-- a candidate shows what kept pairs show and what those show whose ends lie on one variable, or some item shadows it
pub is_settled : (axis : Axis) (t : Tech) (c : Coords) (items : List Item) (Shows : ℕ → ℕ → ℤ → Type 0)
    → ((i j : ℕ) (s : ℤ) → i < length items → j < length items → spacing_at axis t c items i j ≡ Some s
    → let p : Pair = record { i = i; j = j; s = s } in is_constant axis items p ≡ true → Shows i j s)
    → ((i j : ℕ) (s : ℤ) → i < length items → j < length items → spacing_at axis t c items i j ≡ Some s
    → let p : Pair = record { i = i; j = j; s = s } in is_kept axis t c items p ≡ true → Shows i j s)
    → (i j : ℕ) (s : ℤ) → i < length items → j < length items → spacing_at axis t c items i j ≡ Some s
    → Shows i j s
    ⊎ ((k : ℕ) × (k < length items)
    × (reaches s (spacing_at axis t c items i k) (least_of axis items k) (spacing_at axis t c items k j) ≡ true))
is_settled axis t c items Shows by_constant by_kept i j s i_lt j_lt e =
    let p : Pair = record { i = i; j = j; s = s } in
    elim (cases_Bool (is_constant axis items p)) [
      | inl constant ↦ inl (by_constant i j s i_lt j_lt e constant)
      | inr differ ↦ elim (cases_Bool (list_any (shadows axis t c items p) (item_numbers items))) [
        | inl shadowed ↦ inr (found_number (shadows axis t c items p) (length items) shadowed)
        | inr none ↦
            inl (by_kept i j s i_lt j_lt e
            (both_not (is_constant axis items p) (list_any (shadows axis t c items p) (item_numbers items)) differ
            none))
      ]
    ]

-- what shows of each candidate of a layout that gives each item a box
pub shows_of_candidates : (axis : Axis) (t : Tech) (c : Coords) (items : List Item) (Shows : ℕ → ℕ → ℤ → Type 0)
    → All (HasBox c) items
    → ((i k j : ℕ) (a b s : ℤ) → k < length items → Shows i k a → Shows k j b
    → s ≤ℤ ((a +ℤ least_of axis items k) +ℤ b) → Shows i j s)
    → ((i j : ℕ) (s : ℤ) → i < length items → j < length items → spacing_at axis t c items i j ≡ Some s
    → let p : Pair = record { i = i; j = j; s = s } in is_constant axis items p ≡ true → Shows i j s)
    → ((i j : ℕ) (s : ℤ) → i < length items → j < length items → spacing_at axis t c items i j ≡ Some s
    → let p : Pair = record { i = i; j = j; s = s } in is_kept axis t c items p ≡ true → Shows i j s)
    → (i j : ℕ) (s : ℤ) → i < length items → j < length items → spacing_at axis t c items i j ≡ Some s → Shows i j s
shows_of_candidates axis t c items Shows boxes through by_constant by_kept =
    shows_of_all (length items) (spacing_at axis t c items) (low_of axis (layout_of axis c) items)
    (high_of axis (layout_of axis c) items) (least_of axis items) Shows
    (record {
      ordered = λ k lt. ends_ordered axis c (item_at items k) (boxes k no_item lt);
      positive = λ i j s e. (stands_apart axis t c items i j s e).0;
      apart = λ i j s e. (stands_apart axis t c items i j s e).1;
      through = through;
      settled = is_settled axis t c items Shows by_constant by_kept;
    })

join_keeps : (s before least after low_k high_k low_j high_i : ℤ) → before ≤ℤ (low_k -ℤ high_i)
    → after ≤ℤ (low_j -ℤ high_k) → (low_k +ℤ least) ≤ℤ high_k → s ≤ℤ ((before +ℤ least) +ℤ after)
    → s ≤ℤ (low_j -ℤ high_i)
join_keeps s before least after low_k high_k low_j high_i first second long far =
    omega (arith, ints, first, second, long, far)

-- an item has its least extent under the new values, so a candidate that an item shadows keeps its spacing where the
-- two others do
pub pruning_loses_nothing : (axis : Axis) (t : Tech) (c : Coords) (items : List Item) → LosesNothing axis t c items
pruning_loses_nothing axis t c items boxes x long keeps =
    let low = low_of axis x items in
    let high = high_of axis x items in
    let K : Pair → Type 0 = λ q. is_kept axis t c items q ≡ true → Keeps axis x items q in
    all_candidates axis t c items (Keeps axis x items)
    (shows_of_candidates axis t c items (λ i j s. s ≤ℤ (low j -ℤ high i)) boxes
    (λ i k j a b s k_lt first second far. join_keeps s a (least_of axis items k) b (low k) (high k) (low j) (high i)
    first second (long k no_item k_lt) far)
    (λ i j s i_lt j_lt e constant. constant_keeps (layout_of axis c) x (high_end axis items i) (low_end axis items j)
    s (eqb-true (high_end axis items i).var (low_end axis items j).var constant)
    (stands_apart axis t c items i j s e).1)
    (λ i j s i_lt j_lt e kept. All-contains K (candidates_of axis t c items) (record { i = i; j = j; s = s })
    (of_filtered (Keeps axis x items) (is_kept axis t c items) (candidates_of axis t c items) keeps)
    (is_candidate axis t c items i j s i_lt j_lt e) kept))

-- ---- what else is known of kept pairs

-- each kept pair is a candidate
pub kept_among : (axis : Axis) (t : Tech) (c : Coords) (items : List Item) (P : Pair → Type 0)
    → All P (candidates_of axis t c items) → All P (kept_of axis t c items)
kept_among axis t c items P h = All-filter (is_kept axis t c items) P (candidates_of axis t c items) h

-- the ends of a kept pair lie on different variables
pub kept_differs : (axis : Axis) (t : Tech) (c : Coords) (items : List Item)
    → All (λ (p : Pair). (high_end axis items p.i).var ≢ (low_end axis items p.j).var) (kept_of axis t c items)
kept_differs axis t c items =
    All-weaker (λ p. is_kept axis t c items p ≡ true)
    (λ (p : Pair). (high_end axis items p.i).var ≢ (low_end axis items p.j).var)
    (λ p e. eqb-false (high_end axis items p.i).var (low_end axis items p.j).var
    (not-true (is_constant axis items p)
    (and_parts (not (is_constant axis items p)) (not (list_any (shadows axis t c items p) (item_numbers items)))
    e).0))
    (kept_of axis t c items) (filter_passes (is_kept axis t c items) (candidates_of axis t c items))

as_difference : (high low s : ℤ) → (high +ℤ s) ≤ℤ low → s ≤ℤ (low -ℤ high)
as_difference high low s h = omega (arith, ints, h)

-- the values of the layout keep every candidate
pub candidates_apart : (axis : Axis) (t : Tech) (c : Coords) (items : List Item)
    → All (Keeps axis (value_of (coords_along axis c).x) items) (candidates_of axis t c items)
candidates_apart axis t c items =
    all_candidates axis t c items (Keeps axis (value_of (coords_along axis c).x) items)
    (λ i j s i_lt j_lt e. as_difference (high_of axis (layout_of axis c) items i)
    (low_of axis (layout_of axis c) items j) s (stands_apart axis t c items i j s e).1)
