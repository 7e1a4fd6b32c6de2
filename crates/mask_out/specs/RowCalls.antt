-- The calls of a picture, row by row and grid by grid.
use Rattle.std.specs.{Prelude.{ℕ, ℤ, ◌+ℤ◌, List, length, map, flat_map, slice_index}, List.range_with_len}
use Rattle.plan_model.specs.{Instances.{left_in_row, bottom_in_grid}, Rows.row_at}
use Rattle.mask_out.specs.declared.drawing.Call.{Call}

-- instance number c of a row, from the left border of the row's grid and the row's bottom
abbrev pub call_in_row : (ℕ → ℤ) → ℤ → ℤ → List ℕ → ℕ → Call
call_in_row width left bottom row c =
    record { symbol = slice_index row c; x = left +ℤ left_in_row width row c; y = bottom }

abbrev pub calls_in_row : (ℕ → ℤ) → ℤ → ℤ → List ℕ → List Call
calls_in_row width left bottom row = map (call_in_row width left bottom row) (range_with_len 0 (length row))

-- row number r of a grid, and all of its rows
abbrev pub calls_in_row_at : (ℕ → ℤ) → (ℕ → ℤ) → ℤ → List (List ℕ) → ℕ → List Call
calls_in_row_at width height left rows r = calls_in_row width left (bottom_in_grid height rows r) (row_at rows r)

abbrev pub calls_in_grid : (ℕ → ℤ) → (ℕ → ℤ) → ℤ → List (List ℕ) → List Call
calls_in_grid width height left rows =
    flat_map (calls_in_row_at width height left rows) (range_with_len 0 (length rows))
