-- The items of a group.
use Rattle.std.proofs.Common.{◌≡◌, ℕ, ◌<◌, List, length, Some, refl, sym, subst, eq-eqb}
use Rattle.std.proofs.lemmas.List.{Elements.All-filter, Kept.AllPairs-filter}
use Rattle.std.specs.List.{All, AllPairs, Contains, filter}
use Rattle.lam_geom.specs.declared.boxes.Axis.{Axis}
use Rattle.rule_table.specs.declared.{keys.Numbers.Numbers, classes.Class.{Class, TheVariants.{M, P, Dc, Dm, C, I, G}}}
use Rattle.rule_table.specs.{declared.classes.{Class.TheVariants.B, Rule.Rule}, Spacing.spacing_in}
use Rattle.sym_items.specs.declared.items.{Item.Item, Coords.Coords}
use Rattle.pair_rules.specs.Bound.{item_at}
use Rattle.scan_line.specs.{Order.{ComesBefore, IsScanOrder}, Groups.{group_of, AreOfOneGroup, is_of_group}}
use Rattle.scan_line.proofs.NearAcross.{in_filter}

-- classes that have a rule are of one group
pub one_group : (n : Numbers) (a b : Class) (r : Rule) → spacing_in n a b ≡ Some r → AreOfOneGroup a b
unfolding spacing_in
one_group n M M r e = refl
one_group n P P r e = refl
one_group n P Dm r e = refl
one_group n Dm P r e = refl
one_group n Dc Dc r e = refl
one_group n C C r e = refl
one_group n C G r e = refl
one_group n G C r e = refl
one_group n I G r e = refl
one_group n G I r e = refl
one_group n B G r e = refl
one_group n G B r e = refl
one_group n _ _ r e = cc

-- those of a group among all items in the order of the scan
pub record AreMembers (axis : Axis) (c : Coords) (items : List Item) (class : Class) (members : List ℕ) : Type 0 where
  pub in_range : All (λ i. i < length items) members
  pub in_order : AllPairs (ComesBefore axis c items) members
  pub each : (i : ℕ) → i < length items → AreOfOneGroup (item_at items i).class class → Contains members i

pub are_members : (axis : Axis) (c : Coords) (items : List Item) (class : Class) (order members : List ℕ)
    → IsScanOrder axis c items order → members ≡ filter (λ k. is_of_group class (item_at items k)) order
    → AreMembers axis c items class members
are_members axis c items class order members o is =
    let test = λ (k : ℕ). is_of_group class (item_at items k) in
    subst (AreMembers axis c items class) (sym is) (record {
      in_range = All-filter test (λ i. i < length items) order o.in_range;
      in_order = AllPairs-filter (ComesBefore axis c items) test order o.in_order;
      each = λ i lt same. in_filter test order i (o.each i lt)
          (eq-eqb (group_of (item_at items i).class) (group_of class) same);
    })
