-- The items that have a box in a layout.
use Rattle.std.specs.Prelude.{ℤ, ◌<◌, ◌≤ℤ◌, List, length}
use Rattle.lam_geom.specs.Places.{IsPlace}
use Rattle.sym_items.specs.{declared.items.{End.End, Item.Item, Coords.Coords}, Values.value_at}

-- an end lies on one of the variables, within 2^60 of the origin
pub record IsPlacedEnd (values : List ℤ) (e : End) : Type 0 where
  pub among : e.var < length values
  pub placed : IsPlace (value_at e values)

-- two ends span something: the low one lies at most at the high one
pub record HasSpan (values : List ℤ) (low high : End) : Type 0 where
  pub low_placed : IsPlacedEnd values low
  pub high_placed : IsPlacedEnd values high
  pub ordered : value_at low values ≤ℤ value_at high values

-- an item has a box in a layout
pub record HasBox (c : Coords) (i : Item) : Type 0 where
  pub x : HasSpan c.x i.xl i.xh
  pub y : HasSpan c.y i.yl i.yh
