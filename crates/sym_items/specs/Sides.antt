-- The sides of items in a layout, and how far items lie apart.
use Rattle.std.specs.{Prelude.ℤ, Int.int_max}
use Rattle.lam_geom.specs.{declared.boxes.BoxXY.BoxXY, Gaps.gap_between}
use Rattle.sym_items.specs.{declared.items.{Item.Item, Coords.Coords}, Values.value_at}

-- the four sides of a box
pub record Sides : Type 0 where
  pub left : ℤ
  pub right : ℤ
  pub bottom : ℤ
  pub top : ℤ

abbrev pub sides_of : BoxXY → Sides
sides_of b = record { left = b.x.lo; right = b.x.hi; bottom = b.y.lo; top = b.y.hi }

-- where the sides of an item lie in a layout
abbrev pub sides_in : Coords → Item → Sides
sides_in c i =
    record {
      left = value_at i.xl c.x;
      right = value_at i.xh c.x;
      bottom = value_at i.yl c.y;
      top = value_at i.yh c.y;
    }

-- how far two boxes lie apart on x, and how far on y
abbrev pub gap_on_x : Sides → Sides → ℤ
gap_on_x a b = gap_between a.left a.right b.left b.right

abbrev pub gap_on_y : Sides → Sides → ℤ
gap_on_y a b = gap_between a.bottom a.top b.bottom b.top

-- the Chebyshev distance of two boxes: the greater of their gaps on x and on y
abbrev pub gap_of_sides : Sides → Sides → ℤ
gap_of_sides a b = int_max (gap_on_x a b) (gap_on_y a b)

-- the distance of two items in a layout
abbrev pub gap_in : Coords → Item → Item → ℤ
gap_in c a b = gap_of_sides (sides_in c a) (sides_in c b)
