-- The instances of a plan, and where they stand. The widths and the heights of the masters are given by their numbers.
use Rattle.std.specs.Prelude.{◌≡◌, ℕ, ◌<◌, ℤ, pos, ◌+ℤ◌, ◌-ℤ◌, List, [], ◌∷◌, length, map, fold, take, flat_map}
use Rattle.std.specs.{Prelude.{slice_index, slice_index_or}, Int.int_max, List.range_with_len}
use Rattle.plan_model.specs.Rows.{row_at, first_row}

-- an instance: the number of its grid, its row, and its column
pub record InstancePlace : Type 0 where
  pub grid : ℕ
  pub row : ℕ
  pub col : ℕ

abbrev pub grid_at : List (List (List ℕ)) → ℕ → List (List ℕ)
grid_at grids g = slice_index_or grids g []

-- the master that stands there
abbrev pub master_at_spot : List (List (List ℕ)) → InstancePlace → ℕ
master_at_spot grids spot = slice_index (row_at (grid_at grids spot.grid) spot.row) spot.col

-- an instance of the grids
pub record IsInstancePlace (grids : List (List (List ℕ))) (spot : InstancePlace) : Type 0 where
  pub grid : spot.grid < length grids
  pub row : spot.row < length (grid_at grids spot.grid)
  pub col : spot.col < length (row_at (grid_at grids spot.grid) spot.row)

-- all of them: grids in order, of each the rows from the bottom, and each row from the left
abbrev pub spot : ℕ → ℕ → ℕ → InstancePlace
spot g r c = record { grid = g; row = r; col = c }

abbrev pub spots_in_row : ℕ → List (List ℕ) → ℕ → List InstancePlace
spots_in_row g rows r = map (spot g r) (range_with_len 0 (length (row_at rows r)))

abbrev pub spots_in_grid : List (List (List ℕ)) → ℕ → List InstancePlace
spots_in_grid grids g = flat_map (spots_in_row g (grid_at grids g)) (range_with_len 0 (length (grid_at grids g)))

abbrev pub spots_of : List (List (List ℕ)) → List InstancePlace
spots_of grids = flat_map (spots_in_grid grids) (range_with_len 0 (length grids))

-- ---- sizes

abbrev pub total : List ℤ → ℤ
total [] = pos 0
total (x ∷ xs) = x +ℤ total xs

-- the masters of a column have one width, and those of a row one height: that of the first in the row
abbrev pub row_height : (ℕ → ℤ) → List ℕ → ℤ
row_height height row = height (slice_index row 0)

abbrev pub grid_width : (ℕ → ℤ) → List (List ℕ) → ℤ
grid_width width rows = total (map width (first_row rows))

abbrev pub grid_height : (ℕ → ℤ) → List (List ℕ) → ℤ
grid_height height rows = total (map (row_height height) rows)

-- ---- where an instance stands

-- after the widths of the instances to its left
abbrev pub left_in_row : (ℕ → ℤ) → List ℕ → ℕ → ℤ
left_in_row width row c = total (map width (take c row))

-- above the heights of the rows below
abbrev pub bottom_in_grid : (ℕ → ℤ) → List (List ℕ) → ℕ → ℤ
bottom_in_grid height rows r = total (map (row_height height) (take r rows))

-- grids stand side by side, the widest spacing after each
abbrev pub left_of_grid : (ℕ → ℤ) → ℤ → List (List (List ℕ)) → ℕ → ℤ
left_of_grid width widest grids g = total (map (λ rows. grid_width width rows +ℤ widest) (take g grids))

abbrev pub left_of : (ℕ → ℤ) → ℤ → List (List (List ℕ)) → InstancePlace → ℤ
left_of width widest grids s =
    left_of_grid width widest grids s.grid +ℤ left_in_row width (row_at (grid_at grids s.grid) s.row) s.col

abbrev pub bottom_of : (ℕ → ℤ) → List (List (List ℕ)) → InstancePlace → ℤ
bottom_of height grids s = bottom_in_grid height (grid_at grids s.grid) s.row

-- ---- the whole

-- the widths of all grids and the spaces between them; the height of the highest
abbrev pub whole_width : (ℕ → ℤ) → ℤ → List (List (List ℕ)) → ℤ
whole_width width widest grids = left_of_grid width widest grids (length grids) -ℤ widest

abbrev pub whole_height : (ℕ → ℤ) → List (List (List ℕ)) → ℤ
whole_height height grids = fold int_max (pos 0) (map (grid_height height) grids)

-- masters that share a column are equally wide, and masters that share a row equally high
pub record IsAligned (width height : ℕ → ℤ) (grid : List (List ℕ)) : Type 0 where
  pub columns : (r c : ℕ) → r < length grid → c < length (row_at grid r)
      → width (slice_index (row_at grid r) c) ≡ width (slice_index (first_row grid) c)
  pub rows : (r c : ℕ) → r < length grid → c < length (row_at grid r)
      → height (slice_index (row_at grid r) c) ≡ row_height height (row_at grid r)
