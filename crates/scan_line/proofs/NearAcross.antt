-- Items near another lie in its lane.
use Rattle.std.proofs.Common.{◌≡◌, ℕ, zero, suc, ◌+◌, ◌/◌, ◌<◌, ◌≤◌, ℤ, pos, negsuc, ◌+ℤ◌, ◌-ℤ◌, ◌≤ℤ◌, ◌<ℤ◌, Bool, true}
use Rattle.std.proofs.Common.{false, cond, leb, ◌&&◌, List, [], ◌∷◌, length, sym, ap, ◌∙◌, subst, arith}
use Rattle.std.proofs.{Math.Nat.div-mul-le_self, lemmas.{Bool.Decides.nat_tests, Int.{ints, clamps}}}
use Rattle.std.proofs.lemmas.{List.{Elements.All-filter, Kept.AllPairs-filter}, Nat.le-div}
use Rattle.std.specs.{Int.{int_max, RustNames.unsigned_abs}, List.{Contains, filter}}
use Rattle.lam_geom.specs.declared.boxes.Axis.{Axis}
use Rattle.rule_table.specs.declared.classes.Class.{Class}
use Rattle.sym_items.specs.{declared.items.{Item.Item, Coords.Coords}, Sides.{Sides, gap_on_y}}
use Rattle.pair_rules.specs.{Bound.item_at, Candidates.sides_at}
use Rattle.scan_line.specs.declared.{stretches.Stretches.Stretches, level.Level.Level, group.Group.Group}
use Rattle.scan_line.specs.{Stretches.{height_above, stretch_of}, Levels.{meets_lane, IsLevelOf, IsLaneOver}}
use Rattle.scan_line.specs.{Lanes.IsListNear, Order.ComesBefore, Groups.IsGroupOf}

-- a higher place lies in the same stretch or a later one

abs_rises : (x y : ℤ) → pos 0 ≤ℤ x → x ≤ℤ y → unsigned_abs x ≤ unsigned_abs y
abs_rises (pos a) (pos b) low h = omega (arith, ints)
abs_rises (pos a) (negsuc b) low h = absurd (omega (arith, ints))
abs_rises (negsuc a) y low h = absurd (omega (arith, ints))

height_rises : (base v w : ℤ) → v ≤ℤ w → height_above base v ≤ height_above base w
height_rises base v w h = abs_rises (int_max v base -ℤ base) (int_max w base -ℤ base) (omega (arith, ints, clamps))
    (omega (arith, ints, clamps))

quotient_rises : (a b n : ℕ) → 0 < n → a ≤ b → a / n ≤ b / n
quotient_rises a b n some le = le-div (a / n) b n some (omega (arith, div-mul-le_self a n))

pub stretch_rises : (s : Stretches) (v w : ℤ) → 0 < s.length → v ≤ℤ w → stretch_of s v ≤ stretch_of s w
stretch_rises s v w some h =
    let q = quotient_rises (height_above s.base v) (height_above s.base w) s.length some (height_rises s.base v w h) in
    omega (arith, q)

-- a box nearer than the reach to another meets each lane that holds all within the reach of that

begins_below : (a b : Sides) (reach : ℤ) → gap_on_y a b <ℤ reach → a.bottom ≤ℤ (b.top +ℤ reach)
begins_below a b reach h = omega (arith, ints, clamps)

ends_above : (a b : Sides) (reach : ℤ) → gap_on_y a b <ℤ reach → (b.bottom -ℤ reach) ≤ℤ a.top
ends_above a b reach h = omega (arith, ints, clamps)

both_hold : (x y t : ℕ) → x ≤ t + 1 → t ≤ y → (leb x (t + 1) && leb t y) ≡ true
both_hold x y t h k = grind (arith, nat_tests)

pub near_meets : (s : Stretches) (a b : Sides) (reach : ℤ) (t : ℕ) → 0 < s.length
    → stretch_of s (b.bottom -ℤ reach) ≡ t → stretch_of s (b.top +ℤ reach) ≤ t + 1 → gap_on_y a b <ℤ reach
    → meets_lane s t a ≡ true
near_meets s a b reach t some low high near =
    let begins = stretch_rises s a.bottom (b.top +ℤ reach) some (begins_below a b reach near) in
    let ends = stretch_rises s (b.bottom -ℤ reach) a.top some (ends_above a b reach near) in
    both_hold (stretch_of s a.bottom) (stretch_of s a.top) t (omega (arith, begins, high)) (omega (arith, ends, low))

-- the lists

pub in_filter : {X : Type 0} (test : X → Bool) (xs : List X) (a : X) → Contains xs a → test a ≡ true
    → Contains (filter test xs) a
in_filter test [] a h t = absurd (omega (arith, h.1))
in_filter test (x ∷ xs) a (zero, lt, e) t = let here : test x ≡ true = ap test e ∙ t in rw here (zero, omega arith, e)
in_filter test (x ∷ xs) a (suc n, lt, e) t = kept (test x) (in_filter test xs a (n, omega (arith, lt), e) t)
  where
    kept : (b : Bool) → Contains (filter test xs) a → Contains (cond b (x ∷ filter test xs) (filter test xs)) a
    kept true r = (suc r.0, omega (arith, r.1), r.2)
    kept false r = r

pub order_near : (axis : Axis) (c : Coords) (items : List Item) (class : Class) (group : Group) (b : Sides)
    (reach : ℤ) → IsGroupOf axis c items class group → IsListNear axis c items class b reach group.order.items
order_near axis c items class group b reach g =
    record { in_range = g.in_range; in_order = g.in_order; near = λ i lt same _. g.each i lt same }

pub lane_near : (axis : Axis) (c : Coords) (items : List Item) (class : Class) (group : Group) (level : Level)
    (b : Sides) (reach low high : ℤ) (list : List ℕ) → IsGroupOf axis c items class group
    → IsLevelOf axis c items group.order.items level
    → IsLaneOver level low high list → low ≡ (b.bottom -ℤ reach) → high ≡ (b.top +ℤ reach)
    → IsListNear axis c items class b reach list
lane_near axis c items class group level b reach low high list g made over low_is high_is =
    let order = group.order.items in
    let s = level.stretches in
    let meets = λ (i : ℕ). meets_lane s over.lane (sides_at axis c (item_at items i)) in
    let is : list ≡ filter meets order = over.list_is ∙ made.lanes over.lane over.among in
    let P : List ℕ → Type 0 = λ l. IsListNear axis c items class b reach l in
    subst P (sym is) (record {
      in_range = All-filter meets (λ i. i < length items) order g.in_range;
      in_order = AllPairs-filter (ComesBefore axis c items) meets order g.in_order;
      near = λ i lt same gap. in_filter meets order i (g.each i lt same)
          (near_meets s (sides_at axis c (item_at items i)) b reach over.lane made.level_is.cut.some_length
          (ap (stretch_of s) (sym low_is) ∙ over.low_in)
          (subst (λ (z : ℤ). stretch_of s z ≤ over.lane + 1) high_is over.high_in) gap);
    })
