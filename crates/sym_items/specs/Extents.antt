-- The least extents of items.
use Rattle.std.specs.Prelude.{ℕ, ℤ, ◌+ℤ◌, ◌≤ℤ◌}
use Rattle.lam_geom.specs.declared.boxes.Axis.{Axis}
use Rattle.sym_items.specs.{declared.items.Item.Item, Values.end_under, Transposed.item_along}

-- under some values of the variables of an axis an item is at least as long as it has to be
abbrev pub IsLongUnder : Axis → (ℕ → ℤ) → Item → Type 0
IsLongUnder axis x item = (end_under x (item_along axis item).xl +ℤ (item_along axis item).least_x) ≤ℤ end_under x
    (item_along axis item).xh
