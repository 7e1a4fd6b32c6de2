-- Lines: items among which are all that face an item.
use Rattle.std.specs.Prelude.{ℕ, ◌<◌, IsTrue, List, length, All, AllPairs, Contains}
use Rattle.lam_geom.specs.declared.boxes.Axis.{Axis}
use Rattle.rule_table.specs.declared.technology.Tech.{Tech}
use Rattle.sym_items.specs.declared.items.{Item.Item, Coords.Coords}
use Rattle.pair_rules.specs.Candidates.{is_facing}
use Rattle.scan_line.specs.Order.{ComesBefore}

-- a line to item j: some of the items, in the order of the scan, and among them all that are a candidate with item j
pub record IsLineTo (axis : Axis) (t : Tech) (c : Coords) (items : List Item) (j : ℕ) (line : List ℕ) : Type 0 where
  pub in_range : All (λ i. i < length items) line
  pub in_order : AllPairs (ComesBefore axis c items) line
  pub all : (i : ℕ) → i < length items → IsTrue (is_facing axis t c items i j) → Contains line i
