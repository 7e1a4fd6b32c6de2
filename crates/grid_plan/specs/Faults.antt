-- What is wrong with grids.
use Rattle.std.specs.Prelude.{◌≡◌, ℕ, suc, ◌+◌, ◌==◌, nat_lt, true, false, Option, Some, None, is_none, Result, Ok, Err}
use Rattle.std.specs.{Prelude.{List, [], ◌∷◌, length, if◌then◌else◌, slice_index}, Option.{option_map, option_or}}
use Rattle.lam_geom.specs.declared.boxes.Axis.TheVariants.{X, Y}
use Rattle.cell_model.specs.declared.cell.CellPort.{CellPort}
use Rattle.stick_text.specs.declared.{design.{GridText.GridText, RowText.RowText}, fault.GridFault.GridFault}
use Rattle.stick_text.specs.declared.fault.GridFault.TheVariants.{Empty, UnknownCell, RaggedRow, PortMismatch}
use Rattle.checked_cells.specs.{CheckedCell.CheckedCell, Lines.number_of}
use Rattle.plan_model.specs.{Borders.misfit_at, Rows.row_at}
use Rattle.grid_plan.specs.declared.fault.PlanFault.{PlanFault, TheVariants.{Grid, OutOfMemory}}
use Rattle.grid_plan.specs.Numbered.{numbers_in_grid, ports_of_cells}

-- what is found at the first element at which something is; the elements are numbered from k on
abbrev pub first_found : {A B : Type 0} → (ℕ → A → Option B) → ℕ → List A → Option B
first_found find k [] = None
first_found find k (x ∷ xs) = option_or (find k x) (first_found find (suc k) xs)

-- ---- names and lengths

abbrev pub unknown_cell : List CheckedCell → ℕ → ℕ → List ℕ → Option GridFault
unknown_cell cells row col name = if is_none (number_of cells name) then Some (UnknownCell row col) else None

abbrev pub unknown_in_row : List CheckedCell → ℕ → RowText → Option GridFault
unknown_in_row cells row names = first_found (unknown_cell cells row) 0 names.names

abbrev pub unknown_in : List CheckedCell → List RowText → Option GridFault
unknown_in cells rows = first_found (unknown_in_row cells) 0 rows

abbrev pub ragged_row : ℕ → ℕ → RowText → Option GridFault
ragged_row columns row names = if length names.names == columns then None else Some (RaggedRow row)

-- the number of names in the first row
abbrev pub columns_in : List RowText → ℕ
columns_in [] = 0
columns_in (row ∷ rows) = length row.names

abbrev pub ragged_in : List RowText → Option GridFault
ragged_in rows = first_found (ragged_row (columns_in rows)) 0 rows

-- ---- borders

-- the misfit on the right border of an instance, and on its top border, where it has a neighbour there; a grid is
-- here the rows of its cells' numbers
abbrev pub misfit_on_right : List (List CellPort) → List (List ℕ) → ℕ → ℕ → Option GridFault
misfit_on_right ports rows r c =
    if nat_lt (c + 1) (length (row_at rows r)) then option_map (PortMismatch r c false)
    (misfit_at Y ports (slice_index (row_at rows r) c, slice_index (row_at rows r) (c + 1))) else None

abbrev pub misfit_on_top : List (List CellPort) → List (List ℕ) → ℕ → ℕ → Option GridFault
misfit_on_top ports rows r c =
    if nat_lt (r + 1) (length rows) then option_map (PortMismatch r c true)
    (misfit_at X ports (slice_index (row_at rows r) c, slice_index (row_at rows (r + 1)) c)) else None

-- the right border before the top one
abbrev pub misfit_of : List (List CellPort) → List (List ℕ) → ℕ → ℕ → Option GridFault
misfit_of ports rows r c = option_or (misfit_on_right ports rows r c) (misfit_on_top ports rows r c)

abbrev pub misfit_here : List (List CellPort) → List (List ℕ) → ℕ → ℕ → ℕ → Option GridFault
misfit_here ports rows r c cell = misfit_of ports rows r c

abbrev pub misfit_in_row : List (List CellPort) → List (List ℕ) → ℕ → List ℕ → Option GridFault
misfit_in_row ports rows r row = first_found (misfit_here ports rows r) 0 row

abbrev pub misfit_in : List (List CellPort) → List (List ℕ) → Option GridFault
misfit_in ports rows = first_found (misfit_in_row ports rows) 0 rows

-- ---- all

-- the first fault of a grid: it has no row, or else a name of no cell, or else a row of another length, or else ports
-- that do not meet
abbrev pub fault_of_rows : List CheckedCell → GridText → List RowText → Option GridFault
fault_of_rows cells grid [] = Some Empty
fault_of_rows cells grid (row ∷ rows) =
    option_or (unknown_in cells (row ∷ rows))
    (option_or (ragged_in (row ∷ rows)) (misfit_in (ports_of_cells cells) (numbers_in_grid cells grid)))

abbrev pub grid_fault : List CheckedCell → GridText → Option GridFault
grid_fault cells grid = fault_of_rows cells grid grid.rows

-- the first grid that has a fault, and its first fault
abbrev pub numbered_fault : List CheckedCell → ℕ → GridText → Option (ℕ × GridFault)
numbered_fault cells g grid = option_map (λ fault. (g, fault)) (grid_fault cells grid)

unfoldable pub plan_fault : List CheckedCell → List GridText → Option (ℕ × GridFault)
plan_fault cells grids = first_found (numbered_fault cells) 0 grids

-- what is answered to the first fault
abbrev pub judged : Option (ℕ × GridFault) → Result (Unit {0}) PlanFault
judged None = Ok tt
judged (Some found) = Err (Grid found.0 found.1)

-- why there is no plan; that memory runs out may come whatever the grids are
abbrev pub RefusesPlan : List CheckedCell → List GridText → PlanFault → Type 0
RefusesPlan cells grids (Grid grid fault) = plan_fault cells grids ≡ Some (grid, fault)
RefusesPlan cells grids OutOfMemory = Unit {0}
