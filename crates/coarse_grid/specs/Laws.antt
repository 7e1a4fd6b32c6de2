-- What holds of the items of a cell in its start layout.
use Rattle.std.specs.{Prelude.{◌≡◌, ℕ, ◌<◌, pos, ◌≤ℤ◌, true, length}, List.All}
use Rattle.rule_table.specs.{declared.technology.Tech.Tech, Technology.widest_of}
use Rattle.sym_items.specs.{Sides.gap_in, declared.items.Coords.Coords, Boxes.HasBox, Values.value_of}
use Rattle.sym_items.specs.Transposed.{values_along}
use Rattle.lam_geom.specs.declared.boxes.Axis.{Axis}
use Rattle.pair_rules.specs.Bound.{item_at}
use Rattle.cell_model.specs.declared.cell.{Cell.Cell, Nets.Nets}
use Rattle.expand.specs.{declared.master.Master.Master, Items.item_list, Variables.variables_of, Laws.EndsAbove}
use Rattle.coarse_grid.specs.{Start.start_of, Clash.is_near_at, Ranges.{AreApart, ShareAPoint}}

-- each item has a box
abbrev pub HasBoxes : Tech → Cell → Nets → Type 0
HasBoxes tech cell nets = All (HasBox (start_of tech cell)) (item_list tech cell nets)

-- two items whose owners' coarse ranges share no grid point lie at least the widest spacing apart
abbrev pub KeepsApart : Tech → Cell → Nets → Type 0
KeepsApart tech cell nets =
    (i j : ℕ) → i < length (item_list tech cell nets) → j < length (item_list tech cell nets)
    → AreApart cell (item_at (item_list tech cell nets) i).owner (item_at (item_list tech cell nets) j).owner
    → widest_of tech ≤ℤ gap_in (start_of tech cell) (item_at (item_list tech cell nets) i)
    (item_at (item_list tech cell nets) j)

-- A layout of a master: each variable has a value at or above the origin's, which is 0, and each item a box that ends
-- at or above the origin.
pub record IsLayoutOf (master : Master) (layout : Coords) : Type 0 where
  pub counted : (axis : Axis) → length (values_along axis layout) ≡ variables_of axis master.cell
  pub origin : (axis : Axis) → value_of (values_along axis layout) 0 ≡ pos 0
  pub values_above : (axis : Axis) → All (λ z. pos 0 ≤ℤ z) (values_along axis layout)
  pub ends_above : (axis : Axis) → All (EndsAbove axis (value_of (values_along axis layout))) master.items.list
  pub boxes : All (HasBox layout) master.items.list

-- two items that are too near one another in the start layout are of owners whose coarse ranges share a grid point
abbrev pub NearShareAPoint : Tech → Master → Type 0
NearShareAPoint tech master =
    (i j : ℕ) → i < length master.items.list → j < length master.items.list
    → is_near_at tech (start_of tech master.cell) master.items.list i j ≡ true
    → ShareAPoint master.cell (item_at master.items.list i).owner (item_at master.items.list j).owner
