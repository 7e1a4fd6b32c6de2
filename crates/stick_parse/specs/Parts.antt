-- What the parts of a text give, read one after the other.
use Rattle.std.specs.Prelude.{◌≡◌, ℕ, max, Bool, List, [], ◌++◌, Option, Result, Ok}
use Rattle.stick_text.specs.declared.{fault.StickFault.StickFault, design.{Line.Line, CellText.CellText}}
use Rattle.stick_text.specs.declared.design.{RowText.RowText, GridText.GridText, Statement.TheVariants.{Cell, Grid}}
use Rattle.stick_text.specs.{Reading.◌>>=◌, Order.{Place, InGrid, AtEnd, Rest, nothing, with_line, rest_from}}
use Rattle.stick_parse.specs.{declared.cursor.Lines.Lines, LinesLeft.{left, last_of}}

-- what the lines that are left give from this place on
abbrev pub rest_at : Place → Lines → Result Rest StickFault
rest_at place l = rest_from (max 1 (last_of l)) place (left l)

-- lines of a cell in front of the rest
abbrev pub with_lines : List Line → Result Rest StickFault → Result Rest StickFault
with_lines prefix read = read >>= λ rest. Ok (record rest { lines = prefix ++ rest.lines })

-- the lines of one cell and the number of its end, in front of what stands after it
abbrev pub with_cell_lines : List Line → ℕ → Result Rest StickFault → Result Rest StickFault
with_cell_lines prefix end read = read >>= λ rest. Ok (record rest { lines = prefix; end_line = end; rows = [] })

-- the version of the text
abbrev pub with_version : ℕ → Result Rest StickFault → Result Rest StickFault
with_version version read = read >>= λ rest. Ok (record rest { version = version })

-- the first line of a cell in front of the rest
abbrev pub with_cell : ℕ → List ℕ → Result Rest StickFault → Result Rest StickFault
with_cell line name read = read >>= λ rest. Ok (with_line line (Cell name) rest)

-- whole cells in front of the rest
abbrev pub with_cells : List CellText → Result Rest StickFault → Result Rest StickFault
with_cells prefix read =
    read >>= λ rest. Ok (record rest { lines = []; end_line = 0; rows = []; cells = prefix ++ rest.cells })

-- rows of a grid in front of the rest
abbrev pub with_rows : List RowText → Result Rest StickFault → Result Rest StickFault
with_rows prefix read = read >>= λ rest. Ok (record rest { rows = prefix ++ rest.rows })

-- the rows of one grid and the number of its end, in front of what stands after it
abbrev pub with_grid_rows : List RowText → ℕ → Result Rest StickFault → Result Rest StickFault
with_grid_rows prefix end read = read >>= λ rest. Ok (record rest { lines = []; end_line = end; rows = prefix })

-- the first line of a grid in front of the rest
abbrev pub with_grid : ℕ → Option (List ℕ) → Result Rest StickFault → Result Rest StickFault
with_grid line name read = read >>= λ rest. Ok (with_line line (Grid name) rest)

-- whole grids in front of the rest
abbrev pub with_grids : List GridText → Result Rest StickFault → Result Rest StickFault
with_grids prefix read =
    read >>= λ rest. Ok (record rest { lines = []; end_line = 0; rows = []; grids = prefix ++ rest.grids })

-- these lines begin with the rows of a grid and its `end`, and the others stand after it
abbrev pub AreRowsOf : List RowText → Lines → Lines → Type 0
AreRowsOf rows lines others = (end : ℕ)
    × ((named : Bool) → rest_at (InGrid named) lines ≡ with_grid_rows rows end (rest_at (AtEnd named) others))

-- these grids are all that is read
abbrev pub grids_alone : List GridText → Rest
grids_alone grids = record nothing { grids = grids }
