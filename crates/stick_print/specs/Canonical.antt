-- The canonical text of a design: one space between words, a line feed after each line, and nothing else.
use Rattle.std.specs.Prelude.{ℕ, Bool, List, [], ◌∷◌, ◌++◌, Option, Some, None, codes, decimal, if◌then◌else◌}
use Rattle.std.specs.{Fmt.signed_decimal, List.flat_map}
use Rattle.stick_text.specs.declared.design.{Layer.{Layer, TheVariants.{Diffusion, Poly, Metal}}, Form.Form}
use Rattle.stick_text.specs.declared.design.Form.TheVariants.{Joint, Contact, Buried, Fet, Port, Inst, Wire, Limit}
use Rattle.stick_text.specs.declared.design.{Line.Line, CellText.CellText, RowText.RowText, GridText.GridText}
use Rattle.stick_text.specs.declared.design.{Design.Design, Statement.{Statement, TheVariants.{Version, Cell, Item}}}
use Rattle.stick_text.specs.declared.design.Statement.TheVariants.{Grid, Row, End}
use Rattle.lam_geom.specs.declared.boxes.Side.{Side, TheVariants.{Left, Right, Bottom, Top}}

-- ---- words

abbrev pub layer_word : Layer → List ℕ
layer_word Diffusion = codes "diff"
layer_word Poly = codes "poly"
layer_word Metal = codes "metal"

abbrev pub side_word : Side → List ℕ
side_word Left = codes "left"
side_word Right = codes "right"
side_word Bottom = codes "bottom"
side_word Top = codes "top"

abbrev pub kind_word : Bool → List ℕ
kind_word depletion = if depletion then codes "dep" else codes "enh"

abbrev pub direction_word : Bool → List ℕ
direction_word vertical = if vertical then codes "v" else codes "h"

abbrev pub axis_word : Bool → List ℕ
axis_word vertical = if vertical then codes "y" else codes "x"

abbrev pub bound_word : Bool → List ℕ
bound_word at_most = if at_most then codes "<=" else codes ">="

-- a width where one was given
abbrev pub width_words : Option ℕ → List (List ℕ)
width_words None = []
width_words (Some width) = decimal width ∷ []

-- the name of a grid that has one
abbrev pub name_words : Option (List ℕ) → List (List ℕ)
name_words None = []
name_words (Some name) = name ∷ []

-- ---- lines

abbrev pub form_keyword : Form → List ℕ
form_keyword (Joint name layer col row width) = codes "joint"
form_keyword (Contact name lower col row) = codes "contact"
form_keyword (Buried name col row) = codes "buried"
form_keyword (Fet name depletion vertical col row w l) = codes "fet"
form_keyword (Port name side layer place) = codes "port"
form_keyword (Inst name cell col row) = codes "use"
form_keyword (Wire layer a b width) = codes "wire"
form_keyword (Limit vertical a b at_most n) = codes "limit"

abbrev pub form_words : Form → List (List ℕ)
form_words (Joint name layer col row width) = name ∷ layer_word layer ∷ decimal col ∷ decimal row ∷ width_words width
form_words (Contact name lower col row) = name ∷ layer_word lower ∷ decimal col ∷ decimal row ∷ []
form_words (Buried name col row) = name ∷ decimal col ∷ decimal row ∷ []
form_words (Fet name depletion vertical col row w l) =
    name ∷ kind_word depletion ∷ direction_word vertical ∷ decimal col ∷ decimal row ∷ decimal w ∷ decimal l ∷ []
form_words (Port name side layer place) = name ∷ side_word side ∷ layer_word layer ∷ decimal place ∷ []
form_words (Inst name cell col row) = name ∷ cell ∷ decimal col ∷ decimal row ∷ []
form_words (Wire layer a b width) = layer_word layer ∷ a ∷ b ∷ width_words width
form_words (Limit vertical a b at_most n) = axis_word vertical ∷ a ∷ b ∷ bound_word at_most ∷ signed_decimal n ∷ []

abbrev pub keyword_of : Statement → List ℕ
keyword_of (Version version) = codes "sticks"
keyword_of (Cell name) = codes "cell"
keyword_of (Item form) = form_keyword form
keyword_of (Grid name) = codes "grid"
keyword_of (Row row) = codes "row"
keyword_of End = codes "end"

abbrev pub words_of : Statement → List (List ℕ)
words_of (Version version) = decimal version ∷ []
words_of (Cell name) = name ∷ []
words_of (Item form) = form_words form
words_of (Grid name) = name_words name
words_of (Row row) = row.names
words_of End = []

-- the words, with a space before each
abbrev pub spaced : List (List ℕ) → List ℕ
spaced words = flat_map (λ word. 32 ∷ word) words

-- a keyword, the words after it, and a line feed
abbrev pub line_by : List ℕ → List (List ℕ) → List ℕ
line_by keyword words = keyword ++ (spaced words ++ 10 ∷ [])

unfoldable pub line_of : Statement → List ℕ
line_of statement = line_by (keyword_of statement) (words_of statement)

-- ---- the text

abbrev pub item_line : Line → List ℕ
item_line line = line_of (Item line.form)

abbrev pub row_line : RowText → List ℕ
row_line row = line_of (Row row)

unfoldable pub cell_lines : CellText → List ℕ
cell_lines cell = line_of (Cell cell.name) ++ (flat_map item_line cell.lines ++ line_of End)

unfoldable pub grid_lines : GridText → List ℕ
grid_lines grid = line_of (Grid grid.name) ++ (flat_map row_line grid.rows ++ line_of End)

unfoldable pub canonical : Design → List ℕ
canonical design = line_of (Version design.version)
    ++ (flat_map cell_lines design.cells ++ flat_map grid_lines design.grids)
