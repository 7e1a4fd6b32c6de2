-- Which line may stand where, and the design that lines in order give.
use Rattle.std.specs.Prelude.{ℕ, ◌+◌, ◌==◌, max, if◌then◌else◌, Bool, true, false, List, [], ◌∷◌, length, Some, None}
use Rattle.std.specs.{Prelude.{Result, Ok, Err}, Str.Lines.lines}
use Rattle.stick_text.specs.declared.fault.StickKind.{StickKind, TheVariants.{BadLine, Unended, TooManyCells}}
use Rattle.stick_text.specs.declared.{fault.StickFault.StickFault, design.{Line.Line, CellText.CellText}}
use Rattle.stick_text.specs.declared.design.{RowText.RowText, GridText.GridText, Design.Design, Statement.Statement}
use Rattle.stick_text.specs.{declared.design.Statement.TheVariants.{Version, Cell, Item, Grid, Row, End}, Reading.◌>>=◌}
use Rattle.stick_text.specs.Lines.{Entry, entries}

-- Before the first line, after the header or so many cells, inside a cell, inside a grid, after a grid. From the
-- header on it is known whether the grids have names, as they have in version 2.
pub data Place : Type 0 where
  AtHead : Place
  AfterCells : Bool → ℕ → Place
  InCell : Bool → ℕ → Place
  InGrid : Bool → Place
  AtEnd : Bool → Place

-- there are two versions
abbrev pub after_header : ℕ → Result Place StickKind
after_header version = if version == 1 then Ok (AfterCells false 0)
    else (if version == 2 then Ok (AfterCells true 0) else Err BadLine)

-- where the line after this one stands, or why this one may not stand here
abbrev pub place_after : Place → Statement → Result Place StickKind
place_after AtHead (Version version) = after_header version
place_after (AfterCells named cells) (Cell name) = if cells == 256 then Err TooManyCells else Ok
    (InCell named (cells + 1))
place_after (InCell named cells) (Item form) = Ok (InCell named cells)
place_after (InCell named cells) End = Ok (AfterCells named cells)
place_after (AfterCells false cells) (Grid None) = Ok (InGrid false)
place_after (AfterCells true cells) (Grid (Some name)) = Ok (InGrid true)
place_after (InGrid named) (Row row) = Ok (InGrid named)
place_after (InGrid named) End = Ok (AtEnd named)
place_after (AtEnd true) (Grid (Some name)) = Ok (InGrid true)
place_after place statement = Err BadLine

-- What lines that stand in order give: the version after the header, inside a cell the rest of its lines and the
-- number of its end, inside a grid the rest of its rows, and the cells and the grids from there on.
pub record Rest : Type 0 where
  pub version : ℕ
  pub lines : List Line
  pub end_line : ℕ
  pub cells : List CellText
  pub rows : List RowText
  pub grids : List GridText

abbrev pub nothing : Rest
nothing = record { version = 0; lines = []; end_line = 0; cells = []; rows = []; grids = [] }

-- a line in front of the rest
abbrev pub with_line : ℕ → Statement → Rest → Rest
with_line number (Version version) rest = record rest { version = version }
with_line number (Cell name) rest =
    record rest {
      lines = [];
      end_line = 0;
      cells = record { name = name; line = number; end_line = rest.end_line; lines = rest.lines } ∷ rest.cells;
    }
with_line number (Item form) rest = record rest { lines = record { number = number; form = form } ∷ rest.lines }
with_line number (Grid name) rest =
    record rest { rows = []; grids = record { name = name; line = number; rows = rest.rows } ∷ rest.grids }
with_line number (Row row) rest = record rest { rows = row ∷ rest.rows }
with_line number End rest = record rest { lines = []; end_line = number; rows = [] }

abbrev pub at_line : {A : Type 0} → ℕ → Result A StickKind → Result A StickFault
at_line number (Ok x) = Ok x
at_line number (Err kind) = Err (record { line = number; kind = kind })

-- the text ends here
abbrev pub at_end : ℕ → Place → Result Rest StickFault
at_end last AtHead = Err (record { line = last; kind = Unended })
at_end last (AfterCells named cells) = Err (record { line = last; kind = Unended })
at_end last (InCell named cells) = Err (record { line = last; kind = Unended })
at_end last (InGrid named) = Err (record { line = last; kind = Unended })
at_end last (AtEnd named) = Ok nothing

-- what the lines from this place on give, or the first fault; last is the number of the text's last line
abbrev pub rest_from : ℕ → Place → List Entry → Result Rest StickFault
rest_from last place [] = at_end last place
rest_from last place (entry ∷ entries) = do
  statement ← at_line entry.number entry.said
  next ← at_line entry.number (place_after place statement)
  rest ← rest_from last next entries
  Ok (with_line entry.number statement rest)

-- the whole text after its first line is read
abbrev pub design_in : Rest → Design
design_in rest = record { version = rest.version; cells = rest.cells; grids = rest.grids }

-- the number of the last line, and 1 for an empty text
abbrev pub last_line : List ℕ → ℕ
last_line text = max 1 (length (lines text))

-- the design of a text, or its first fault
unfoldable pub design_of : List ℕ → Result Design StickFault
design_of text = do
  rest ← rest_from (last_line text) AtHead (entries 1 (lines text))
  Ok (design_in rest)
