-- The cells that grids name, by their numbers, and the masters among them.
use Rattle.std.specs.Prelude.{ℕ, ◌==◌, Bool, List, map, flat_map, position, unwrap_or}
use Rattle.cell_model.specs.declared.cell.CellPort.{CellPort}
use Rattle.stick_text.specs.declared.design.{GridText.GridText, RowText.RowText}
use Rattle.checked_cells.specs.{CheckedCell.{CheckedCell, known_at}, Lines.number_of, Ports.ports_of}
use Rattle.plan_model.specs.Rows.{firsts}

-- the number of the cell with a name; 0 where there is none
abbrev pub cell_named : List CheckedCell → List ℕ → ℕ
cell_named cells name = unwrap_or (number_of cells name) 0

-- the numbers of the cells of a grid, row by row
abbrev pub numbers_in_row : List CheckedCell → RowText → List ℕ
numbers_in_row cells row = map (cell_named cells) row.names

abbrev pub numbers_in_grid : List CheckedCell → GridText → List (List ℕ)
numbers_in_grid cells grid = map (numbers_in_row cells) grid.rows

abbrev pub is_same_number : ℕ → ℕ → Bool
is_same_number a b = a == b

-- the masters: the cells that the grids name, in order of their first places
abbrev pub masters_in : List CheckedCell → List GridText → List ℕ
masters_in cells grids = firsts is_same_number (flat_map (λ grid. flat_map (numbers_in_row cells) grid.rows) grids)

-- the position of a cell among the masters
abbrev pub master_of : List ℕ → ℕ → ℕ
master_of masters cell = unwrap_or (position (is_same_number cell) masters) 0

-- the grids, by the positions of their masters
abbrev pub planned_rows : List CheckedCell → List GridText → List (List (List ℕ))
planned_rows cells grids = map (λ grid. map (map (master_of (masters_in cells grids))) (numbers_in_grid cells grid))
    grids

-- the ports of each cell, and of each master
abbrev pub ports_of_cells : List CheckedCell → List (List CellPort)
ports_of_cells cells = map ports_of cells

abbrev pub ports_of_chosen : List CheckedCell → List ℕ → List (List CellPort)
ports_of_chosen cells masters = map (λ k. ports_of (known_at cells k)) masters
