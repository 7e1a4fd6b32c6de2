-- What faces an item lies near it, and before it.
use Rattle.std.proofs.Common.{◌≡◌, ℕ, true, ℤ, ◌≤ℤ◌, ◌<ℤ◌, inl, List, Option, Some, None, refl, arith}
use Rattle.std.{proofs.lemmas.Int.ints, specs.Prelude.is_some}
use Rattle.lam_geom.specs.declared.boxes.Axis.{Axis, TheVariants.{X, Y}}
use Rattle.rule_table.specs.{declared.technology.Tech.Tech, Technology.{numbers_of, widest_of}}
use Rattle.sym_items.specs.{declared.items.{Item.Item, Coords.Coords}, Boxes.HasBox, Sides.gap_on_y}
use Rattle.pair_rules.specs.{Bound.item_at, Candidates.{sides_at, spacing_at, is_facing}}
use Rattle.pair_rules.proofs.{FacingItems.out_of_facing, BoundItems.out_of_bound}
use Rattle.scan_line.specs.{Order.{begin_of, ComesBefore}, Groups.AreOfOneGroup}
use Rattle.scan_line.proofs.{Grouped.one_group, Spacings.{positive, within_widest}}

some_there : (o : Option ℤ) → is_some o ≡ true → (s : ℤ) × (o ≡ Some s)
some_there None e = cc
some_there (Some s) e = (s, refl)

ordered : (axis : Axis) (c : Coords) (a : Item) → HasBox c a → (sides_at axis c a).left ≤ℤ (sides_at axis c a).right
ordered X c a h = h.x.ordered
ordered Y c a h = h.y.ordered

left_is : (axis : Axis) (c : Coords) (items : List Item) (k : ℕ)
    → begin_of axis c items k ≡ (sides_at axis c (item_at items k)).left
left_is X c items k = refl
left_is Y c items k = refl

-- an item whose box begins before that of another comes before it
comes_before : (axis : Axis) (c : Coords) (items : List Item) (i j : ℕ)
    → (sides_at axis c (item_at items i)).left <ℤ (sides_at axis c (item_at items j)).left
    → ComesBefore axis c items i j
comes_before axis c items i j h = inl (omega (arith, ints, h, left_is axis c items i, left_is axis c items j))

-- an item that faces another lies nearer to it across than the widest spacing, and comes before it
pub near_and_before : (axis : Axis) (t : Tech) (c : Coords) (items : List Item) (i j : ℕ) → HasBox c (item_at items i)
    → is_facing axis t c items i j ≡ true
    → (gap_on_y (sides_at axis c (item_at items i)) (sides_at axis c (item_at items j)) <ℤ widest_of t)
    × ComesBefore axis c items i j
near_and_before axis t c items i j box facing =
    let w = some_there (spacing_at axis t c items i j) facing in
    let s = w.0 in
    let a = item_at items i in
    let b = item_at items j in
    let h = out_of_facing axis t c a b s w.1 in
    let near = h.near_across in
    let apart = h.apart in
    let some = positive t a b s h.bound in
    let within = within_widest t a b s h.bound in
    let long = ordered axis c a box in
    (omega (arith, ints), comes_before axis c items i j (omega (arith, ints)))

-- and is of its group
pub faces_in_group : (axis : Axis) (t : Tech) (c : Coords) (items : List Item) (i j : ℕ)
    → is_facing axis t c items i j ≡ true → AreOfOneGroup (item_at items i).class (item_at items j).class
faces_in_group axis t c items i j facing =
    let w = some_there (spacing_at axis t c items i j) facing in
    let a = item_at items i in
    let b = item_at items j in
    let h = out_of_bound t a b w.0 (out_of_facing axis t c a b w.0 w.1).bound in
    one_group (numbers_of t) a.class b.class h.rule h.ruled
