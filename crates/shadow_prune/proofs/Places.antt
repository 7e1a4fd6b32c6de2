-- The places of the items of a family among its bars.
use Rattle.std.proofs.Common.{◌≡◌, ℕ, ◌<◌, ℤ, pos, ◌<ℤ◌, ◌≤ℤ◌, Bool, true, List, length, Option, Some, None}
use Rattle.std.proofs.Common.{get_or, inl, inr, refl, sym, ap, ◌∙◌, subst, arith}
use Rattle.std.proofs.lemmas.{Int.ints, Bool.cases_lt, List.{length-map, get_or-map, get_or_default}}
use Rattle.std.proofs.lemmas.List.{Elements.{All-contains, All-contains_itself, All-filter, filter_passes}}
use Rattle.std.proofs.lemmas.List.Kept.{AllPairs-filter}
use Rattle.std.specs.{Prelude.is_some, List.{Contains, filter}}
use Rattle.lam_geom.specs.declared.boxes.Axis.{Axis}
use Rattle.rule_table.specs.declared.technology.Tech.{Tech}
use Rattle.sym_items.specs.{declared.items.{Item.Item, Coords.Coords}, Values.value_of}
use Rattle.pair_rules.{specs.Bound.{item_at, no_item}, proofs.PairLists.of_filtered}
use Rattle.bar_rows.specs.Rows.{bar_at, no_bar}
use Rattle.scan_line.specs.Begins.{begin_at, begins_of, BeginsBefore, IsOrderOf}
use Rattle.shadow_prune.specs.{declared.families.Family.Family, Families.{role_of, is_of, members_of, bar_of, bars_of}}
use Rattle.shadow_prune.proofs.Binding.{item_bar}

-- the number at a place of a family's items
abbrev pub member_at : List Item → Family → List ℕ → ℕ → ℕ
member_at items f order p = get_or (members_of items f order) p 0

pub count_bars : (axis : Axis) (t : Tech) (c : Coords) (items : List Item) (f : Family) (order : List ℕ)
    → length (bars_of axis t c items f order) ≡ length (members_of items f order)
count_bars axis t c items f order = length-map (members_of items f order) (bar_of axis t c items f)

pub bar_at_place : (axis : Axis) (t : Tech) (c : Coords) (items : List Item) (f : Family) (order : List ℕ) (p : ℕ)
    → p < length (members_of items f order)
    → bar_at (bars_of axis t c items f order) p
    ≡ item_bar axis t c f (item_at items (member_at items f order p)) (member_at items f order p)
bar_at_place axis t c items f order p lt =
    get_or-map (bar_of axis t c items f) (members_of items f order) p 0 no_bar lt

-- the numbers at places are those of items of the family
pub member_among : (axis : Axis) (c : Coords) (items : List Item) (f : Family) (order : List ℕ) (p : ℕ)
    → IsOrderOf (begins_of axis c items) order → p < length (members_of items f order)
    → member_at items f order p < length items
member_among axis c items f order p h lt =
    let all = All-filter (is_of items f) (λ k. k < length (begins_of axis c items)) order h.in_range in
    omega (arith, all p 0 lt, length-map items (begin_at axis c))

some_role : (o : Option Bool) → is_some o ≡ true → (m : Bool) × (o ≡ Some m)
some_role (Some m) e = (m, refl)
some_role None e = cc

pub member_role : (items : List Item) (f : Family) (order : List ℕ) (p : ℕ) → p < length (members_of items f order)
    → (m : Bool) × (role_of f (item_at items (member_at items f order p)).class ≡ Some m)
member_role items f order p lt =
    some_role (role_of f (item_at items (member_at items f order p)).class) (filter_passes (is_of items f) order p 0 lt)

-- and the number of each such item has a place
is_left : (test : ℕ → Bool) (xs : List ℕ) (v : ℕ) → Contains xs v → test v ≡ true → Contains (filter test xs) v
is_left test xs v w e =
    let K : ℕ → Type 0 = λ x. test x ≡ true → Contains (filter test xs) x in
    All-contains K xs v (of_filtered (Contains (filter test xs)) test xs (All-contains_itself (filter test xs))) w e

pub record HasPlace (items : List Item) (f : Family) (order : List ℕ) (k : ℕ) : Type 0 where
  pub place : ℕ
  pub among : place < length (members_of items f order)
  pub there : member_at items f order place ≡ k

pub place_of : (axis : Axis) (c : Coords) (items : List Item) (f : Family) (order : List ℕ) (k : ℕ) (m : Bool)
    → IsOrderOf (begins_of axis c items) order → k < length items → role_of f (item_at items k).class ≡ Some m
    → HasPlace items f order k
place_of axis c items f order k m h lt role =
    let among : k < length (begins_of axis c items) = omega (arith, lt, length-map items (begin_at axis c)) in
    let w = is_left (is_of items f) order k (h.each k among) (ap is_some role) in
    record {
      place = w.0;
      among = w.1;
      there = get_or_default (members_of items f order) w.0 0 k w.1 ∙ w.2;
    }

-- ---- places come in the order in which items begin

pub begin_is : (axis : Axis) (c : Coords) (items : List Item) (k : ℕ) → k < length items
    → value_of (begins_of axis c items) k ≡ begin_at axis c (item_at items k)
begin_is axis c items k lt = get_or-map (begin_at axis c) items k no_item (pos 0) lt

pub not_later : (begins : List ℤ) (a b : ℕ) → BeginsBefore begins a b → value_of begins a ≤ℤ value_of begins b
not_later begins a b (inl lt) = omega (arith, ints)
not_later begins a b (inr same) = let e = same.0 in omega (arith, ints)

one_before : (begins : List ℤ) (a b : ℕ) → BeginsBefore begins a b → BeginsBefore begins b a → ⊥
one_before begins a b (inl x) (inl y) = omega (arith, ints)
one_before begins a b (inl x) (inr y) = let e = y.0 in omega (arith, ints)
one_before begins a b (inr x) (inl y) = let e = x.0 in omega (arith, ints)
one_before begins a b (inr x) (inr y) = let l = x.1 in let r = y.1 in omega arith

pub members_in_order : (axis : Axis) (c : Coords) (items : List Item) (f : Family) (order : List ℕ) (p q : ℕ)
    → IsOrderOf (begins_of axis c items) order → p < q → q < length (members_of items f order)
    → BeginsBefore (begins_of axis c items) (member_at items f order p) (member_at items f order q)
members_in_order axis c items f order p q h lt among =
    AllPairs-filter (BeginsBefore (begins_of axis c items)) (is_of items f) order h.in_order p q 0 lt among

pub places_in_order : (axis : Axis) (c : Coords) (items : List Item) (f : Family) (order : List ℕ) (p q : ℕ)
    → IsOrderOf (begins_of axis c items) order → p < length (members_of items f order)
    → BeginsBefore (begins_of axis c items) (member_at items f order p) (member_at items f order q) → p < q
places_in_order axis c items f order p q h among before =
    let begins = begins_of axis c items in
    let a = member_at items f order p in
    elim (cases_lt p q) as (λ _. p < q) [
      | inl lt ↦ lt
      | inr le ↦ elim (cases_lt q p) as (λ _. p < q) [
        | inl lt ↦ absurd (one_before begins a (member_at items f order q) before
            (members_in_order axis c items f order q p h lt among))
        | inr ge ↦
            let same : q ≡ p = omega (arith, le, ge) in
            let itself : BeginsBefore begins a a =
            subst (λ x. BeginsBefore begins a (member_at items f order x)) same before in
            absurd (one_before begins a a itself itself)
      ]
    ]

-- an item whose left side comes first begins before another
pub before_by_begin : (axis : Axis) (c : Coords) (items : List Item) (a b : ℕ) → a < length items → b < length items
    → begin_at axis c (item_at items a) <ℤ begin_at axis c (item_at items b)
    → BeginsBefore (begins_of axis c items) a b
before_by_begin axis c items a b a_among b_among lt =
    inl (subst (λ z. z <ℤ value_of (begins_of axis c items) b) (sym (begin_is axis c items a a_among))
    (subst (λ z. begin_at axis c (item_at items a) <ℤ z) (sym (begin_is axis c items b b_among)) lt))

pub begin_not_later : (axis : Axis) (c : Coords) (items : List Item) (a b : ℕ) → a < length items → b < length items
    → BeginsBefore (begins_of axis c items) a b
    → begin_at axis c (item_at items a) ≤ℤ begin_at axis c (item_at items b)
begin_not_later axis c items a b a_among b_among before =
    subst (λ z. z ≤ℤ begin_at axis c (item_at items b)) (begin_is axis c items a a_among)
    (subst (λ z. value_of (begins_of axis c items) a ≤ℤ z) (begin_is axis c items b b_among)
    (not_later (begins_of axis c items) a b before))
