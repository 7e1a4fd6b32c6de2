-- What a design is made of: names, paths, and numbers that are not too large.
use Rattle.std.specs.Prelude.{◌≡◌, ◌⊎◌, ℕ, ◌≤◌, ◌<◌, List, [], ◌∷◌, length, Option, Some, None, IsTrue}
use Rattle.std.specs.List.{AllByRecursion}
use Rattle.stick_lex.specs.{Tokens.{is_name, is_path}, Numbers.IsNumber}
use Rattle.stick_text.specs.declared.design.{Layer.{Layer, TheVariants.{Diffusion, Poly, Metal}}, Form.Form}
use Rattle.stick_text.specs.declared.design.Form.TheVariants.{Joint, Contact, Buried, Fet, Port, Inst, Wire, Limit}
use Rattle.stick_text.specs.declared.design.{Line.Line, CellText.CellText, RowText.RowText, GridText.GridText}
use Rattle.stick_text.specs.declared.design.{Design.Design, Statement.{Statement, TheVariants.{Version, Cell, Item}}}
use Rattle.stick_text.specs.declared.design.Statement.TheVariants.{Grid, Row, End}

abbrev pub IsName : List ℕ → Type 0
IsName text = IsTrue (is_name text)

abbrev pub IsPath : List ℕ → Type 0
IsPath text = IsTrue (is_path text)

abbrev pub IsCount : ℕ → Type 0
IsCount n = n ≤ 1000000

abbrev pub IsWidth : Option ℕ → Type 0
IsWidth None = Unit {0}
IsWidth (Some width) = IsCount width

abbrev pub IsLower : Layer → Type 0
IsLower Diffusion = Unit {0}
IsLower Poly = Unit {0}
IsLower Metal = ⊥

abbrev pub IsForm : Form → Type 0
IsForm (Joint name layer col row width) = IsName name × IsCount col × IsCount row × IsWidth width
IsForm (Contact name lower col row) = IsName name × IsLower lower × IsCount col × IsCount row
IsForm (Buried name col row) = IsName name × IsCount col × IsCount row
IsForm (Fet name depletion vertical col row w l) = IsName name × IsCount col × IsCount row × IsCount w × IsCount l
IsForm (Port name side layer place) = IsName name × IsCount place
IsForm (Inst name cell col row) = IsName name × IsName cell × IsCount col × IsCount row
IsForm (Wire layer a b width) = IsPath a × IsPath b × IsWidth width
IsForm (Limit vertical a b at_most n) = IsPath a × IsPath b × IsNumber n

abbrev pub IsLine : Line → Type 0
IsLine line = IsForm line.form

abbrev pub IsRow : RowText → Type 0
IsRow row = (0 < length row.names) × AllByRecursion IsName row.names

-- a name, where there is one
abbrev pub IsGridName : Option (List ℕ) → Type 0
IsGridName None = Unit {0}
IsGridName (Some name) = IsName name

-- the names of a line are names, its paths paths, and its numbers not too large
abbrev pub IsStatement : Statement → Type 0
IsStatement (Version version) = IsCount version
IsStatement (Cell name) = IsName name
IsStatement (Item form) = IsForm form
IsStatement (Grid name) = IsGridName name
IsStatement (Row row) = IsRow row
IsStatement End = Unit {0}

abbrev pub IsCell : CellText → Type 0
IsCell cell = IsName cell.name × AllByRecursion IsLine cell.lines

abbrev pub IsGrid : GridText → Type 0
IsGrid grid = IsGridName grid.name × AllByRecursion IsRow grid.rows

-- ---- the grids of a version

abbrev pub IsOneUnnamed : List GridText → Type 0
IsOneUnnamed grids = (grid : GridText) × (grids ≡ grid ∷ []) × (grid.name ≡ None)

abbrev pub HasName : GridText → Type 0
HasName grid = (name : List ℕ) × (grid.name ≡ Some name)

abbrev pub AreSomeNamed : List GridText → Type 0
AreSomeNamed grids = (0 < length grids) × AllByRecursion HasName grids

-- version 1 has one grid without a name, and version 2 one or more with names
abbrev pub AreGridsOf : ℕ → List GridText → Type 0
AreGridsOf version grids = ((version ≡ 1) × IsOneUnnamed grids) ⊎ ((version ≡ 2) × AreSomeNamed grids)

-- the design has a text
pub record IsWritable (design : Design) : Type 0 where
  pub cells : AllByRecursion IsCell design.cells
  pub few_cells : length design.cells ≤ 256
  pub grids : AllByRecursion IsGrid design.grids
  pub fits : AreGridsOf design.version design.grids
