-- The cells of a design: which one has a number, whether it is used, and the lines of a new one.
use Rattle.std.specs.Prelude.{◌≡◌, ℕ, All, List, [], slice_index_or}
use Rattle.stick_text.specs.declared.design.{Form.{Form, TheVariants.Inst}, Line.Line, CellText.CellText, Design.Design}

-- a line of the new cell, which gets its number with all others
abbrev pub unnumbered : Form → Line
unnumbered form = record { number = 0; form = form }

-- the line is a use of the cell with this name
abbrev pub Uses : List ℕ → Form → Type 0
Uses used (Inst name cell col row) = cell ≡ used
Uses used form = ⊥

-- no line of these cells is a use of the cell with this name
abbrev pub AreWithoutUse : List ℕ → List CellText → Type 0
AreWithoutUse name cells = All (λ (text : CellText). All (λ line. Uses name line.form → ⊥) text.lines) cells

abbrev pub no_cell : CellText
no_cell = record { name = []; line = 0; end_line = 0; lines = [] }

abbrev pub cell_text_at : Design → ℕ → CellText
cell_text_at design k = slice_index_or design.cells k no_cell
