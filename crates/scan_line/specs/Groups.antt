-- Groups of classes: a spacing is kept among the items of one group alone.
use Rattle.std.specs.Prelude.{◌≡◌, ℕ, ◌<◌, Bool, ◌==◌, List, length, map, All, AllPairs, Contains}
use Rattle.lam_geom.specs.declared.boxes.Axis.{Axis}
use Rattle.rule_table.specs.declared.classes.Class.{Class, TheVariants.{M, P, Dc, Dm, C, I, G, B}}
use Rattle.sym_items.specs.declared.items.{Item.Item, Coords.Coords}
use Rattle.pair_rules.specs.Bound.{item_at}
use Rattle.scan_line.specs.{declared.group.Group.Group, Levels.IsLevelOf, Order.ComesBefore}

-- the number of the group of a class: metal, diffusion, poly with the diffusion of the mask, and what keeps off
-- channels
abbrev pub group_of : Class → ℕ
group_of M = 0
group_of Dc = 1
group_of P = 2
group_of Dm = 2
group_of C = 3
group_of I = 3
group_of G = 3
group_of B = 3

abbrev pub AreOfOneGroup : Class → Class → Type 0
AreOfOneGroup a b = group_of a ≡ group_of b

-- an item is of the group of a class, computed
abbrev pub is_of_group : Class → Item → Bool
is_of_group class item = group_of item.class == group_of class

-- the class of each of some items
abbrev pub classes_of : List Item → List ℕ → List Class
classes_of items order = map (λ k. (item_at items k).class) order

-- the items of the group of a class, in the order of the scan, with their lanes
pub record IsGroupOf (axis : Axis) (c : Coords) (items : List Item) (class : Class) (group : Group) : Type 0 where
  pub in_range : All (λ i. i < length items) group.order.items
  pub in_order : AllPairs (ComesBefore axis c items) group.order.items
  pub each : (i : ℕ) → i < length items → AreOfOneGroup (item_at items i).class class → Contains group.order.items i
  pub levels : All (IsLevelOf axis c items group.order.items) group.levels.items
