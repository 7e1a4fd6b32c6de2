-- The design that the canonical text of a design says.
use Rattle.std.specs.Prelude.{◌≡◌, ℕ, ◌+◌, List, [], ◌∷◌, map, length, Ok}
use Rattle.stick_text.specs.declared.design.{Line.Line, CellText.CellText, GridText.GridText, Design.Design}
use Rattle.stick_text.specs.{Order.design_of, Says.SaysDesign, Writable.IsWritable}
use Rattle.stick_print.specs.Canonical.{canonical}

-- ---- the same design, line numbers aside

abbrev pub without_number : Line → Line
without_number line = record { number = 0; form = line.form }

abbrev pub without_numbers : CellText → CellText
without_numbers cell = record { name = cell.name; line = 0; end_line = 0; lines = map without_number cell.lines }

abbrev pub without_line : GridText → GridText
without_line grid = record { name = grid.name; line = 0; rows = grid.rows }

abbrev pub unnumbered : Design → Design
unnumbered design =
    record {
      version = design.version;
      cells = map without_numbers design.cells;
      grids = map without_line design.grids;
    }

-- the text says this design, line numbers aside
abbrev pub ReadsAs : List ℕ → Design → Type 0
ReadsAs text design = (read : Design) × (design_of text ≡ Ok read) × (unnumbered read ≡ unnumbered design)

-- ---- the same design on lines that follow one another

-- the first of these lines has this number, and each other one the next
abbrev pub lines_from : ℕ → List Line → List Line
lines_from number [] = []
lines_from number (line ∷ lines) = record { number = number; form = line.form } ∷ lines_from (number + 1) lines

-- the first of these cells begins at this line, and each other one after the `end` of the one before it
abbrev pub cells_from : ℕ → List CellText → List CellText
cells_from number [] = []
cells_from number (cell ∷ cells) =
    let end = number + 1 + length cell.lines in
    record { name = cell.name; line = number; end_line = end; lines = lines_from (number + 1) cell.lines } ∷
    cells_from (end + 1) cells

-- the line after the `end` of the last of these cells
abbrev pub line_after_cells : ℕ → List CellText → ℕ
line_after_cells number [] = number
line_after_cells number (cell ∷ cells) = line_after_cells (number + 1 + length cell.lines + 1) cells

-- the first of these grids begins at this line, and each other one after the `end` of the one before it
abbrev pub grids_from : ℕ → List GridText → List GridText
grids_from number [] = []
grids_from number (grid ∷ grids) =
    record { name = grid.name; line = number; rows = grid.rows } ∷ grids_from (number + 1 + length grid.rows + 1)
    grids

-- after the line of the version, each line on the line after the one before it
abbrev pub laid_out : Design → Design
laid_out design =
    record {
      version = design.version;
      cells = cells_from 2 design.cells;
      grids = grids_from (line_after_cells 2 design.cells) design.grids;
    }

-- a design that has a text is what its canonical text says, line by line
abbrev pub IsSaidByCanonical : Design → Type 0
IsSaidByCanonical design = IsWritable design → SaysDesign (canonical design) (laid_out design)
