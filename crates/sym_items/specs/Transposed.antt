-- What exchanges x and y, so that what is said of axis x is said of axis y too.
use Rattle.std.specs.Prelude.{◌≡◌, ◌↔◌, ℕ, ℤ, List}
use Rattle.lam_geom.specs.{declared.boxes.{BoxXY.BoxXY, Axis.{Axis, TheVariants.{X, Y}}}, Gaps.transposed}
use Rattle.sym_items.specs.declared.items.{Item.Item, Items.Items, Coords.Coords}
use Rattle.sym_items.specs.{Sides.{Sides, sides_of, sides_in}, Boxes.HasBox}

-- an item, a layout and the sides of a box with x and y exchanged
abbrev pub transposed_item : Item → Item
transposed_item i = record i { xl = i.yl; xh = i.yh; yl = i.xl; yh = i.xh; least_x = i.least_y; least_y = i.least_x }

abbrev pub transposed_coords : Coords → Coords
transposed_coords c = record { x = c.y; y = c.x }

abbrev pub transposed_sides : Sides → Sides
transposed_sides s = record { left = s.bottom; right = s.top; bottom = s.left; top = s.right }

-- the same turned so that the given axis lies where x lay: as it is for x, exchanged for y
abbrev pub item_along : Axis → Item → Item
item_along X i = i
item_along Y i = transposed_item i

abbrev pub coords_along : Axis → Coords → Coords
coords_along X c = c
coords_along Y c = transposed_coords c

abbrev pub sides_along : Axis → Sides → Sides
sides_along X s = s
sides_along Y s = transposed_sides s

-- the values of an axis in a layout, and how many variables an axis has
abbrev pub values_along : Axis → Coords → List ℤ
values_along axis c = (coords_along axis c).x

abbrev pub vars_along : Axis → Items → ℕ
vars_along X items = items.x_vars
vars_along Y items = items.y_vars

-- b is the box of an item in a layout
abbrev pub IsBoxOf : Coords → Item → BoxXY → Type 0
IsBoxOf c i b = sides_of b ≡ sides_in c i

-- the transposed item has a box in the transposed layout where the item has one, and it is the transposed box
pub record TransposesBoxes (c : Coords) (i : Item) : Type 0 where
  pub has_box : HasBox (transposed_coords c) (transposed_item i) ↔ HasBox c i
  pub box : (b : BoxXY) → IsBoxOf c i b → IsBoxOf (transposed_coords c) (transposed_item i) (transposed b)
