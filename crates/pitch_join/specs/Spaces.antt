-- The pairs whose inequalities are added.
use Rattle.std.specs.Prelude.{ℕ, ◌+◌, ◌<◌, ◌^◌, pos, ◌≤ℤ◌, List, length}
use Rattle.lam_geom.specs.declared.boxes.Axis.{Axis}
use Rattle.sym_items.specs.{declared.items.Item.Item, Transposed.item_along}
use Rattle.pair_rules.specs.declared.pairs.Pair.{Pair}

-- the joint variables of an item's ends fit into 32 bits
pub record EndsBelow (base : ℕ) (axis : Axis) (item : Item) : Type 0 where
  pub low : base + (item_along axis item).xl.var < 2 ^ 32
  pub high : base + (item_along axis item).xh.var < 2 ^ 32

-- the pair is of two of the items, with a spacing from 0 to 4096
pub record IsPairAmong (items : List Item) (p : Pair) : Type 0 where
  pub i_among : p.i < length items
  pub j_among : p.j < length items
  pub low : pos 0 ≤ℤ p.s
  pub high : p.s ≤ℤ pos 4096
