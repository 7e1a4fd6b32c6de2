-- How many names stand in the grids of a design, and how many lines its canonical text has.
use Rattle.std.specs.{Prelude.{ℕ, ◌+◌, length}, List.sum_by}
use Rattle.stick_text.specs.declared.design.{CellText.CellText, RowText.RowText, GridText.GridText, Design.Design}

-- ---- names

abbrev pub names_in_row : RowText → ℕ
names_in_row row = length row.names

abbrev pub names_in_grid : GridText → ℕ
names_in_grid grid = sum_by names_in_row grid.rows

abbrev pub names_in : Design → ℕ
names_in design = sum_by names_in_grid design.grids

-- ---- lines

-- a cell or a grid has its first line, a line for each thing in it, and its `end`
abbrev pub lines_of_cell : CellText → ℕ
lines_of_cell cell = 2 + length cell.lines

abbrev pub lines_of_grid : GridText → ℕ
lines_of_grid grid = 2 + length grid.rows

-- the first line tells the version
abbrev pub lines_in : Design → ℕ
lines_in design = 1 + (sum_by lines_of_cell design.cells + sum_by lines_of_grid design.grids)
