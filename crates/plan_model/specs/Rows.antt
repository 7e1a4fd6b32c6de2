-- Rows of instances, and which stand beside and above one another. A grid is the list of its rows from the bottom, a
-- row that of the masters of its instances from the left.
use Rattle.std.specs.Prelude.{◌≡◌, ℕ, ◌==◌, ◌<◌, ◌&&◌, ◌||◌, Bool, All, List, [], ◌∷◌, ◌++◌, length, map, flat_map}
use Rattle.std.specs.{Prelude.{fold, if◌then◌else◌, slice_index, slice_index_or}, List.{list_any, range_with_len, zip}}
use Rattle.plan_model.specs.declared.plan.{PlanGrid.PlanGrid, PlanRow.PlanRow}

-- the rows of a grid of a plan
abbrev pub rows_of : PlanGrid → List (List ℕ)
rows_of grid = map (λ (row : PlanRow). row.cells) grid.rows

-- each element of a list with the one after it
abbrev pub neighbours : {A : Type 0} → List A → List (A × A)
neighbours [] = []
neighbours (x ∷ []) = []
neighbours (x ∷ y ∷ rest) = (x, y) ∷ neighbours (y ∷ rest)

-- two rows, instance by instance
abbrev pub zipped_rows : List ℕ × List ℕ → List (ℕ × ℕ)
zipped_rows rows = zip rows.0 rows.1

-- the row, and the column, with this number, and the first row
abbrev pub row_at : List (List ℕ) → ℕ → List ℕ
row_at rows r = slice_index_or rows r []

abbrev pub column_at : List (List ℕ) → ℕ → List ℕ
column_at rows c = map (λ row. slice_index row c) rows

abbrev pub first_row : List (List ℕ) → List ℕ
first_row rows = row_at rows 0

-- the columns of a grid, from the left, each from the bottom
abbrev pub columns_of : List (List ℕ) → List (List ℕ)
columns_of rows = map (column_at rows) (range_with_len 0 (length (first_row rows)))

-- each master with the one on its right: row by row, from the left
abbrev pub beside : List (List ℕ) → List (ℕ × ℕ)
beside rows = flat_map neighbours rows

-- each master with the one above it: row by row, from the left; and column by column, from the bottom
abbrev pub above : List (List ℕ) → List (ℕ × ℕ)
above rows = flat_map zipped_rows (neighbours rows)

abbrev pub above_by_columns : List (List ℕ) → List (ℕ × ℕ)
above_by_columns rows = beside (columns_of rows)

-- the elements of a list, each at its first place alone, where a test tells which are one
abbrev pub add_new : {A : Type 0} → (A → A → Bool) → List A → A → List A
add_new same found x = if list_any (same x) found then found else found ++ x ∷ []

abbrev pub firsts : {A : Type 0} → (A → A → Bool) → List A → List A
firsts same xs = fold (add_new same) [] xs

-- whether two pairs of masters are one, and whether they are of the same two masters
abbrev pub is_pair : ℕ × ℕ → ℕ × ℕ → Bool
is_pair p q = (p.0 == q.0) && (p.1 == q.1)

abbrev pub is_pair_either_way : ℕ × ℕ → ℕ × ℕ → Bool
is_pair_either_way p q = is_pair p q || ((p.0 == q.1) && (p.1 == q.0))

-- A grid has rows, all of one length, which is not 0.
pub record IsRectangular (rows : List (List ℕ)) : Type 0 where
  pub some_rows : 0 < length rows
  pub some_columns : 0 < length (first_row rows)
  pub equal : All (λ row. length row ≡ length (first_row rows)) rows
