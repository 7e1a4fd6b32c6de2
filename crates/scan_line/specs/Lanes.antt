-- The lanes of a layout: which items lie where across an axis.
use Rattle.std.specs.Prelude.{◌≡◌, ℕ, ◌<◌, ℤ, ◌<ℤ◌, List, length, All, AllPairs, Contains}
use Rattle.lam_geom.specs.declared.boxes.Axis.{Axis}
use Rattle.rule_table.specs.declared.classes.Class.{Class, TheVariants.{M, P, Dc, C}}
use Rattle.sym_items.specs.{declared.items.{Item.Item, Coords.Coords}, Sides.{Sides, gap_on_y}}
use Rattle.pair_rules.specs.{Bound.item_at, Candidates.sides_at}
use Rattle.scan_line.specs.{declared.lanes.Lanes.Lanes, Begins.begins_of, Groups.{AreOfOneGroup, IsGroupOf}}
use Rattle.scan_line.specs.Order.{ComesBefore, IsScanOrder}

-- the lanes were made of these items in this layout
pub record AreLanesOf (axis : Axis) (c : Coords) (items : List Item) (lanes : Lanes) : Type 0 where
  pub order : IsScanOrder axis c items lanes.order.items
  pub begins : lanes.begins.items ≡ begins_of axis c items
  pub metal : IsGroupOf axis c items M lanes.metal
  pub diffusion : IsGroupOf axis c items Dc lanes.diffusion
  pub poly : IsGroupOf axis c items P lanes.poly
  pub channels : IsGroupOf axis c items C lanes.channels

-- a list of items in the order of the scan that has all of the group of a class that lie nearer to a box than a reach
pub record IsListNear (axis : Axis) (c : Coords) (items : List Item) (class : Class) (b : Sides) (reach : ℤ)
    (list : List ℕ) : Type 0 where
  pub in_range : All (λ i. i < length items) list
  pub in_order : AllPairs (ComesBefore axis c items) list
  pub near : (i : ℕ) → i < length items → AreOfOneGroup (item_at items i).class class
      → gap_on_y (sides_at axis c (item_at items i)) b <ℤ reach → Contains list i
