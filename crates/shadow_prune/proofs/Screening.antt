-- An item shadows a pair where its bar screens those of the pair from each other.
use Rattle.std.proofs.Common.{◌≡◌, ℕ, ℤ, ◌+ℤ◌, ◌≤ℤ◌, Bool, true, false, Some, sym, subst, arith}
use Rattle.std.{proofs.lemmas.Int.ints, specs.Prelude.{IsTrue, int_le}}
use Rattle.lam_geom.specs.declared.boxes.Axis.{Axis}
use Rattle.rule_table.specs.declared.technology.Tech.{Tech}
use Rattle.sym_items.specs.{declared.items.{Item.Item, Coords.Coords}, Boxes.HasBox, Transposed.item_along}
use Rattle.pair_rules.specs.{Candidates.IsCandidate, Clean.IsSpaced}
use Rattle.bar_rows.specs.{declared.bars.Bar.Bar, Facing.{KindsBind, Faces, Screens}}
use Rattle.scan_line.specs.Begins.{begin_at}
use Rattle.shadow_prune.specs.{declared.families.Family.Family, Families.{role_of, has_rule, has_self_rule, is_main}}
use Rattle.shadow_prune.specs.Families.{least_needed}
use Rattle.shadow_prune.proofs.Binding.{spacing_for, item_bar, main_by_role, bound_by_roles}
use Rattle.shadow_prune.proofs.Facing.{faces_if_near, near_if_faces, candidate_if_near}

-- how much of a spacing is left over for the item between
left_over : (t : Tech) (f : Family) (self_rule m x n : Bool) (a k b : Bar) → KindsBind self_rule m n a b
    → KindsBind self_rule m x a k → KindsBind self_rule x n k b
    → ((spacing_for t f m x +ℤ least_needed t f x) +ℤ spacing_for t f x n) ≡ spacing_for t f m n
left_over t f self_rule true true true a k b both first second = omega (arith, ints)
left_over t f self_rule true true false a k b both first second = omega (arith, ints)
left_over t f self_rule true false true a k b both first second = omega (arith, ints)
left_over t f self_rule false true true a k b both first second = omega (arith, ints)
left_over t f self_rule true false false a k b both first second = absurd second
left_over t f self_rule false true false a k b both first second = absurd both
left_over t f self_rule false false true a k b both first second = absurd first
left_over t f self_rule false false false a k b both first second = absurd both

-- three bars, each of which faces the two others
pub record FaceAll (self_rule : Bool) (a k b : Bar) : Type 0 where
  pub both : Faces self_rule a b
  pub first : Faces self_rule a k
  pub second : Faces self_rule k b

-- the roles of three items
pub record HaveRoles (f : Family) (a k b : Item) (m x n : Bool) : Type 0 where
  pub first : role_of f a.class ≡ Some m
  pub middle : role_of f k.class ≡ Some x
  pub last : role_of f b.class ≡ Some n

left_over_of : (axis : Axis) (t : Tech) (c : Coords) (f : Family) (a k b : Item) (i l j : ℕ) (m x n : Bool)
    → HaveRoles f a k b m x n
    → FaceAll (has_self_rule t f) (item_bar axis t c f a i) (item_bar axis t c f k l) (item_bar axis t c f b j)
    → ((spacing_for t f m x +ℤ least_needed t f x) +ℤ spacing_for t f x n) ≡ spacing_for t f m n
left_over_of axis t c f a k b i l j m x n r h =
    let p = item_bar axis t c f a i in
    let q = item_bar axis t c f k l in
    let s = item_bar axis t c f b j in
    let w = has_self_rule t f in
    let u = main_by_role f a m r.first in
    let v = main_by_role f k x r.middle in
    let y = main_by_role f b n r.last in
    left_over t f w m x n p q s
    (subst (λ z. KindsBind w m z p s) y (subst (λ z. KindsBind w z (is_main f b) p s) u h.both.bound.kinds))
    (subst (λ z. KindsBind w m z p q) v (subst (λ z. KindsBind w z (is_main f k) p q) u h.first.bound.kinds))
    (subst (λ z. KindsBind w x z q s) y (subst (λ z. KindsBind w z (is_main f b) q s) v h.second.bound.kinds))

is_solid_by : (least needed : ℤ) → needed ≤ℤ least → IsTrue (int_le needed least)
is_solid_by least needed h = grind (arith, ints)

by_solid : (least needed : ℤ) → IsTrue (int_le needed least) → needed ≤ℤ least
by_solid least needed h = grind (arith, ints)

enough : (before needed after s least : ℤ) → ((before +ℤ needed) +ℤ after) ≡ s → s ≤ℤ ((before +ℤ least) +ℤ after)
    → needed ≤ℤ least
enough before needed after s least sum h = omega (arith, ints)

reaches_by : (before needed after s least : ℤ) → ((before +ℤ needed) +ℤ after) ≡ s → needed ≤ℤ least
    → s ≤ℤ ((before +ℤ least) +ℤ after)
reaches_by before needed after s least sum h = omega (arith, ints)

-- an item k between two others with a spacing, whose candidates with them reach as far
pub record IsBetween (axis : Axis) (t : Tech) (c : Coords) (a k b : Item) (s : ℤ) : Type 0 where
  pub before : ℤ
  pub after : ℤ
  pub first : IsCandidate axis t c a k before
  pub second : IsCandidate axis t c k b after
  pub reaches : s ≤ℤ ((before +ℤ (item_along axis k).least_x) +ℤ after)

pub screens_if_between : (axis : Axis) (t : Tech) (c : Coords) (f : Family) (a k b : Item) (i l j : ℕ) (m x n : Bool)
    (s : ℤ) → HaveRoles f a k b m x n → IsCandidate axis t c a b s → IsBetween axis t c a k b s
    → Screens (has_self_rule t f) (item_bar axis t c f a i) (item_bar axis t c f b j) (item_bar axis t c f k l)
screens_if_between axis t c f a k b i l j m x n s r h w =
    let both = faces_if_near axis t c f a b i j m n s r.first r.last h.bound h.near_across in
    let first = faces_if_near axis t c f a k i l m x w.before r.first r.middle w.first.bound w.first.near_across in
    let second = faces_if_near axis t c f k b l j x n w.after r.middle r.last w.second.bound w.second.near_across in
    let sum = left_over_of axis t c f a k b i l j m x n r (record { both = both; first = first; second = second }) in
    let least = (item_along axis k).least_x in
    let reaches : spacing_for t f m n ≤ℤ ((spacing_for t f m x +ℤ least) +ℤ spacing_for t f x n) =
    subst (λ z. z ≤ℤ ((spacing_for t f m x +ℤ least) +ℤ spacing_for t f x n))
    (bound_by_roles t f a b m n s r.first r.last h.bound)
    (subst (λ z. s ≤ℤ ((z +ℤ least) +ℤ spacing_for t f x n))
    (bound_by_roles t f a k m x w.before r.first r.middle w.first.bound)
    (subst (λ z. s ≤ℤ ((w.before +ℤ least) +ℤ z))
    (bound_by_roles t f k b x n w.after r.middle r.last w.second.bound) w.reaches)) in
    let needed =
    enough (spacing_for t f m x) (least_needed t f x) (spacing_for t f x n) (spacing_for t f m n) least sum reaches in
    record {
      solid = subst (λ z. IsTrue (int_le (least_needed t f z) least)) (sym (main_by_role f k x r.middle))
          (is_solid_by least (least_needed t f x) needed);
      first = first;
      second = second;
    }

-- three items with boxes, spaced as in a clean layout, in order of where they begin
pub record AreInOrder (axis : Axis) (t : Tech) (c : Coords) (a k b : Item) : Type 0 where
  pub middle_box : HasBox c k
  pub last_box : HasBox c b
  pub first_clean : IsSpaced t c a k
  pub second_clean : IsSpaced t c k b
  pub first_before : begin_at axis c a ≤ℤ begin_at axis c k
  pub second_before : begin_at axis c k ≤ℤ begin_at axis c b

pub between_if_screens : (axis : Axis) (t : Tech) (c : Coords) (f : Family) (a k b : Item) (i l j : ℕ) (m x n : Bool)
    → HaveRoles f a k b m x n → IsTrue (has_rule t f) → AreInOrder axis t c a k b
    → Faces (has_self_rule t f) (item_bar axis t c f a i) (item_bar axis t c f b j)
    → Screens (has_self_rule t f) (item_bar axis t c f a i) (item_bar axis t c f b j) (item_bar axis t c f k l)
    → IsBetween axis t c a k b (spacing_for t f m n)
between_if_screens axis t c f a k b i l j m x n r has o both h =
    let near = near_if_faces axis t c f a k i l m x r.first r.middle has h.first in
    let far = near_if_faces axis t c f k b l j x n r.middle r.last has h.second in
    let sum = left_over_of axis t c f a k b i l j m x n r (record { both = both; first = h.first; second = h.second })
    in
    let least = (item_along axis k).least_x in
    let solid : IsTrue (int_le (least_needed t f x) least) =
    subst (λ z. IsTrue (int_le (least_needed t f z) least)) (main_by_role f k x r.middle) h.solid in
    record {
      before = spacing_for t f m x;
      after = spacing_for t f x n;
      first = candidate_if_near axis t c a k (spacing_for t f m x) near o.middle_box o.first_clean o.first_before;
      second = candidate_if_near axis t c k b (spacing_for t f x n) far o.last_box o.second_clean o.second_before;
      reaches = reaches_by (spacing_for t f m x) (least_needed t f x) (spacing_for t f x n) (spacing_for t f m n) least
          sum (by_solid least (least_needed t f x) solid);
    }
