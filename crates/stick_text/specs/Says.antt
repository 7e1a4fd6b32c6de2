-- The design that a text says: what lines it has, one after the other.
use Rattle.std.specs.{Prelude.{◌≡◌, ℕ, ◌≤◌, List, [], ◌∷◌, ◌++◌, map, length, Ok, flat_map}, Str.Lines.lines}
use Rattle.stick_text.specs.declared.design.{Line.Line, CellText.CellText, GridText.GridText, Design.Design}
use Rattle.stick_text.specs.declared.design.Statement.{Statement, TheVariants.{Version, Cell, Item, Grid, Row, End}}
use Rattle.stick_text.specs.{Lines.{Entry, entries}, Writable.AreGridsOf}

-- the line with this number says this
abbrev pub saying : ℕ → Statement → Entry
saying number statement = record { number = number; said = Ok statement }

-- a line of a cell
abbrev pub form_line : Line → Entry
form_line line = saying line.number (Item line.form)

-- the lines of a cell: `cell NAME`, one for each of its forms, `end`
abbrev pub cell_part : CellText → List Entry
cell_part cell = saying cell.line (Cell cell.name) ∷ (map form_line cell.lines ++ saying cell.end_line End ∷ [])

-- the lines of a grid: `grid` or `grid NAME`, one for each row, `end`; a design keeps the number of the first alone
pub record IsGridPart (grid : GridText) (entries : List Entry) : Type 0 where
  pub inner : List Entry
  pub last : ℕ
  pub parts : entries ≡ saying grid.line (Grid grid.name) ∷ (inner ++ saying last End ∷ [])
  pub each : map (λ entry. entry.said) inner ≡ map (λ row. Ok (Row row)) grid.rows

-- the lines of grids, one grid after the other
abbrev pub AreGridParts : List GridText → List Entry → Type 0
AreGridParts [] entries = entries ≡ []
AreGridParts (grid ∷ grids) entries = (part : List Entry) × (others : List Entry) × (entries ≡ part ++ others)
    × IsGridPart grid part × AreGridParts grids others

-- the lines of a design: `sticks 1` or `sticks 2`, those of its cells, those of its grids, which are of its version,
-- and nothing more
pub record AreLinesOf (design : Design) (entries : List Entry) : Type 0 where
  pub first : ℕ
  pub grids : List Entry
  pub parts : entries ≡ saying first (Version design.version) ∷ (flat_map cell_part design.cells ++ grids)
  pub grid_parts : AreGridParts design.grids grids
  pub fits : AreGridsOf design.version design.grids

-- the lines of a text that say something
abbrev pub said_lines : List ℕ → List Entry
said_lines text = entries 1 (lines text)

-- the text says this design: it has the lines of the design, comments and empty lines aside, and at most 256 cells
pub record SaysDesign (text : List ℕ) (design : Design) : Type 0 where
  pub has_lines : AreLinesOf design (said_lines text)
  pub few_cells : length design.cells ≤ 256
