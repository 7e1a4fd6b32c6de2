-- The layouts of several cells.
use Rattle.std.specs.Prelude.{ℕ, ℤ, List, [], slice_index_or}
use Rattle.lam_geom.specs.declared.boxes.Axis.{Axis}
use Rattle.sym_items.specs.{declared.items.Coords.Coords, Values.value_of, Transposed.values_along}

-- the layout of cell number m
abbrev pub no_layout : Coords
no_layout = record { x = []; y = [] }

abbrev pub layout_at : List Coords → ℕ → Coords
layout_at layouts m = slice_index_or layouts m no_layout

-- the value of a variable of an axis in it
abbrev pub value_in : Axis → List Coords → ℕ → ℕ → ℤ
value_in axis layouts m v = value_of (values_along axis (layout_at layouts m)) v

-- its width or its height: the value of its far border, variable 1
abbrev pub size_in : Axis → List Coords → ℕ → ℤ
size_in axis layouts m = value_in axis layouts m 1
