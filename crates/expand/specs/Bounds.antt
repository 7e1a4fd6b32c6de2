-- Where the items of a cell lie among its variables, and how small their lengths are.
use Rattle.std.specs.Prelude.{◌≡◌, ℕ, ◌<◌, ◌^◌, ℤ, pos, neg_ℤ, ◌+ℤ◌, ◌≤ℤ◌, List, length, slice_index}
use Rattle.sym_items.specs.{declared.items.{End.End, Item.Item}, Transposed.item_along}
use Rattle.lam_geom.specs.declared.boxes.Axis.{Axis}
use Rattle.cell_model.specs.declared.cell.Cell.{Cell}
use Rattle.expand.specs.Variables.{cross_of, variables_of}

-- a length from 0 to 2^14, and one that far either side of 0
pub record IsSmall (z : ℤ) : Type 0 where
  pub low : pos 0 ≤ℤ z
  pub high : z ≤ℤ pos (2 ^ 14)

pub record IsNear (z : ℤ) : Type 0 where
  pub low : neg_ℤ (pos (2 ^ 14)) ≤ℤ z
  pub high : z ≤ℤ pos (2 ^ 14)

-- an end near one of so many variables
pub record IsEndAmong (vars : ℕ) (e : End) : Type 0 where
  pub among : e.var < vars
  pub near : IsNear e.off

-- two ends that have to lie so far apart do, where both lie on one variable
abbrev pub FitsOn : End → End → ℤ → Type 0
FitsOn low high least = low.var ≡ high.var → (low.off +ℤ least) ≤ℤ high.off

-- A low end and a high end on an axis, with their least extent: no low end lies on the far border, and no high end on
-- the origin; an end that lies on a border is the border.
pub record IsSpanAmong (vars : ℕ) (low high : End) (least : ℤ) : Type 0 where
  pub low_among : IsEndAmong vars low
  pub high_among : IsEndAmong vars high
  pub before_far : low.var ≡ 1 → ⊥
  pub after_origin : high.var ≡ 0 → ⊥
  pub at_origin : low.var ≡ 0 → low.off ≡ pos 0
  pub at_far_border : high.var ≡ 1 → high.off ≡ pos 0
  pub small : IsSmall least
  pub fits : FitsOn low high least

-- an item lies among the variables of both axes
pub record IsItemAmong (x_vars y_vars : ℕ) (i : Item) : Type 0 where
  pub x : IsSpanAmong x_vars i.xl i.xh i.least_x
  pub y : IsSpanAmong y_vars i.yl i.yh i.least_y

-- the same of the variables of a cell, seen along an axis
abbrev pub LiesAlong : Axis → Cell → Item → Type 0
LiesAlong axis cell i = IsSpanAmong (variables_of axis cell) (item_along axis i).xl (item_along axis i).xh
    (item_along axis i).least_x

-- the half size of a channel, or what extends past it
pub record IsHalfSize (z : ℤ) : Type 0 where
  pub low : pos 0 ≤ℤ z
  pub high : z ≤ℤ pos 4096

-- the cross coordinates of the first wires
pub record AreCrosses (cell : Cell) (count : ℕ) (crosses : List ℕ) : Type 0 where
  pub counted : length crosses ≡ count
  pub each : (k : ℕ) → k < count → slice_index crosses k ≡ cross_of cell k

-- the lengths of an item along an axis are small
pub record IsNearAlong (axis : Axis) (i : Item) : Type 0 where
  pub low : IsNear (item_along axis i).xl.off
  pub high : IsNear (item_along axis i).xh.off
  pub least : IsNear (item_along axis i).least_x
