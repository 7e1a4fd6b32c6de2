-- What holds of every master: of its items, and of all values that meet its structure.
use Rattle.std.specs.{Prelude.{◌≡◌, ◌≢◌, ◌↔◌, ℕ, ◌<◌, ◌^◌, ℤ, pos, ◌+ℤ◌, ◌≤ℤ◌, All, length}, List.AllByRecursion}
use Rattle.lam_geom.specs.declared.boxes.Axis.{Axis}
use Rattle.rule_table.specs.declared.technology.Tech.{Tech}
use Rattle.sym_items.specs.declared.items.{End.End, Item.Item}
use Rattle.sym_items.specs.{Transposed.{item_along, vars_along}, Values.end_under, Extents.IsLongUnder}
use Rattle.cons_graph.specs.{Constraints.IsConstraintGraph, declared.edges.Why.Why, Solutions.Meets}
use Rattle.cell_model.specs.Counts.{items_in}
use Rattle.expand.specs.{declared.master.Master.Master, Variables.variables_of, Structure.{between, structure_of}}
use Rattle.expand.specs.Bounds.{LiesAlong}

-- The inequality between two ends is met exactly where they lie so far apart, unless both lie on one variable: then
-- there is none.
abbrev pub BetweenMeans : End → End → ℤ → Why → Type 0
BetweenMeans low high len why =
    (x : ℕ → ℤ) → AllByRecursion (Meets x) (between low high len why)
    ↔ (low.var ≢ high.var → (end_under x low +ℤ len) ≤ℤ end_under x high)

-- under some values of the variables of an axis the high end of an item lies at or above the origin
abbrev pub EndsAbove : Axis → (ℕ → ℤ) → Item → Type 0
EndsAbove axis x item = pos 0 ≤ℤ end_under x (item_along axis item).xh

-- the values of an axis keep a master above the origin
pub record StandsOn (axis : Axis) (master : Master) (x : ℕ → ℤ) : Type 0 where
  pub values_above : (v : ℕ) → v < variables_of axis master.cell → pos 0 ≤ℤ x v
  pub ends_above : All (EndsAbove axis x) master.items.list
  pub long : All (IsLongUnder axis x) master.items.list

-- values of an axis that meet the structure of a master, with the origin at 0
pub record MeetsStructure (axis : Axis) (tech : Tech) (master : Master) (x : ℕ → ℤ) : Type 0 where
  pub origin : x 0 ≡ pos 0
  pub meets : All (Meets x) (structure_of axis tech master.cell master.items.list)

-- what holds of a master
pub record IsLawful (tech : Tech) (master : Master) : Type 0 where
  pub count : length master.items.list ≡ items_in master.cell
  pub few : length master.items.list < 2 ^ 32
  pub vars : (axis : Axis) → vars_along axis master.items ≡ variables_of axis master.cell
  pub lie : (axis : Axis) → All (LiesAlong axis master.cell) master.items.list
  pub shape : (axis : Axis)
      → IsConstraintGraph
      (record { vars = variables_of axis master.cell; edges = structure_of axis tech master.cell master.items.list })
  pub stands : (axis : Axis) (x : ℕ → ℤ) → MeetsStructure axis tech master x → StandsOn axis master x
