-- The first item to which some item is too near.
use Rattle.std.proofs.Common.{◌≡◌, ◌∙◌, ℕ, ◌+◌, ◌<◌, ◌≤◌, true, false, List, length, get_or, refl, sym, subst, arith}
use Rattle.rule_table.specs.declared.classes.Class.{Class, TheVariants.{M, P, Dc, Dm, C, I, G, B}}
use Rattle.rule_table.specs.{declared.technology.Tech.Tech, Spacing.all_classes}
use Rattle.sym_items.specs.declared.items.{Item.Item, Coords.Coords}
use Rattle.pair_rules.specs.{Bound.item_at, Clean.IsClean}
use Rattle.coarse_grid.specs.{Clash.is_near_at, Nearby.{HasNear, IsFirstNear, IsFirstOf, IsNearOf}}
use Rattle.coarse_grid.proofs.{Nears.{by_lt, all_clean, near_either}, NearGroups.{near_other, not_true}}

-- ---- class by class

-- what holds once the first n classes are done
pub record IsFirstUpTo (tech : Tech) (c : Coords) (items : List Item) (n first : ℕ) : Type 0 where
  pub within : first ≤ length items
  pub none : (m i k : ℕ) → m < n → i < first → IsNearOf tech c items (get_or all_classes m M) i k → ⊥
  pub near : first < length items → HasNear tech c items first

-- one class more
pub first_more : (tech : Tech) (c : Coords) (items : List Item) (class : Class) (n end first : ℕ)
    → IsFirstUpTo tech c items n end → class ≡ get_or all_classes n M → IsFirstOf tech c items class end first
    → IsFirstUpTo tech c items (n + 1) first
first_more tech c items class n end first h class_is is = record {
  within = omega (arith, h.within, is.within);
  none = λ m i k lt before. by_lt m n
      (λ done. h.none m i k done (omega (arith, before, is.within)))
      (λ at near. let same : n ≡ m = omega (arith, at, lt) in
      is.none i k before (subst (λ (d : Class). IsNearOf tech c items d i k) (sym (class_is ∙ place same)) near));
  near = λ lt. by_lt first end is.near
      (λ ge. let same : end ≡ first = omega (arith, ge, is.within) in subst (HasNear tech c items) same
      (h.near (omega (arith, same, lt))));
}
  where
    place : {m : ℕ} → n ≡ m → get_or all_classes n M ≡ get_or all_classes m M
    place e = cc

-- where each class stands among all
place_of : Class → ℕ
place_of M = 0
place_of P = 1
place_of Dc = 2
place_of Dm = 3
place_of C = 4
place_of I = 5
place_of G = 6
place_of B = 7

at_place : (class : Class) → (place_of class < 8) × (get_or all_classes (place_of class) M ≡ class)
unfolding place_of
at_place M = (omega arith, refl)
at_place P = (omega arith, refl)
at_place Dc = (omega arith, refl)
at_place Dm = (omega arith, refl)
at_place C = (omega arith, refl)
at_place I = (omega arith, refl)
at_place G = (omega arith, refl)
at_place B = (omega arith, refl)

-- all classes
pub first_of_all : (tech : Tech) (c : Coords) (items : List Item) (n first : ℕ) → 8 ≤ n
    → IsFirstUpTo tech c items n first → IsFirstNear tech c items first
first_of_all tech c items n first all h = record {
  within = h.within;
  none = λ i k before among. not_true (is_near_at tech c items i k) (λ near.
      let class = (item_at items k).class in
      let there = at_place class in
      h.none (place_of class) i k (omega (arith, there.0, all)) before
      (record { among = among; class_is = sym there.1; near = near }));
  near = h.near;
}

-- ---- the pair

pub none_before : (tech : Tech) (c : Coords) (items : List Item) (first : ℕ) → IsFirstNear tech c items first
    → length items ≤ first → IsClean tech c items
none_before tech c items first h all = all_clean tech c items
    (λ i j lt among. h.none i j (omega (arith, all, lt, among)) among)

-- an item that is too near to the first one comes after it
pub some_after : (tech : Tech) (c : Coords) (items : List Item) (first : ℕ) → IsFirstNear tech c items first
    → first < length items → ((j : ℕ) → first < j → j < length items → is_near_at tech c items first j ≡ false) → ⊥
some_after tech c items first h among none =
    let w = h.near among in
    let k : ℕ = w.0 in
    let near : is_near_at tech c items first k ≡ true = w.2 in
    by_lt k first
    (λ before. let apart = near_either tech c (item_at items k) (item_at items first) (h.none k first before among) in
    let no : ⊥ = cc in no)
    (λ le. by_lt first k
    (λ after. let apart = none k after w.1 in let no : ⊥ = cc in no)
    (λ ge. near_other tech c items first k near (omega (arith, le, ge))))
