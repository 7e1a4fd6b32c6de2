-- Edits: a cell of a design gets a limit more, or loses one.
use Rattle.std.specs.Prelude.{◌≡◌, ℕ, ◌+◌, Bool, true, false, Contains, List, [], ◌∷◌, ◌++◌, Option, Some, count_by}
use Rattle.std.specs.{Prelude.{position, slice_set}, Str.bytes_eq}
use Rattle.stick_text.specs.declared.design.{Form.{Form, TheVariants.Limit}, Line.Line, CellText.CellText}
use Rattle.stick_text.specs.declared.design.Design.{Design}
use Rattle.stick_print.specs.ReadBack.{laid_out}
use Rattle.design_sizes.specs.Sizes.{lines_in}
use Rattle.design_edits.specs.Cells.{unnumbered, cell_text_at, AreWithoutUse}
use Rattle.edit_lines.specs.{declared.script.EditLine.{EditLine, TheVariants.{Add, Take}}, Scripts.cell_in}

-- ---- the lines of the cell

abbrev pub is_limit : Form → Bool
is_limit (Limit vertical a b at_most n) = true
is_limit form = false

abbrev pub limits_in : List Line → ℕ
limits_in lines = count_by (λ line. is_limit line.form) lines

-- the line of limit number k, from 0, is gone, and the others stay
pub record IsWithoutLimit (lines : List Line) (k : ℕ) (new : List Line) : Type 0 where
  pub prefix : List Line
  pub limit : Line
  pub back : List Line
  pub split : lines ≡ prefix ++ limit ∷ back
  pub count : limits_in prefix ≡ k
  pub of_limit : is_limit limit.form ≡ true
  pub kept : new ≡ prefix ++ back

-- the lines of the cell after an edit: a limit that is added stands after all others
abbrev pub ChangesTo : EditLine → List Line → List Line → Type 0
ChangesTo (Add cell vertical a b at_most n) lines new = new ≡ lines ++ unnumbered (Limit vertical a b at_most n) ∷ []
ChangesTo (Take cell k) lines new = IsWithoutLimit lines k new

-- ---- the design

-- the number of the cell with this name
abbrev pub number_named : List CellText → List ℕ → Option ℕ
number_named cells name = position (λ (text : CellText). bytes_eq name text.name) cells

-- An edit of a design: the cell is one of the masters and is used by no cell. The new design has the cell with its
-- new lines in the place of the old one, and its lines have the numbers that they have in its canonical text.
pub record IsEdited (design : Design) (masters : List ℕ) (edit : EditLine) (new : Design) : Type 0 where
  pub cell : ℕ
  pub named : number_named design.cells (cell_in edit) ≡ Some cell
  pub master : Contains masters cell
  pub unused : AreWithoutUse (cell_in edit) design.cells
  pub lines : List Line
  pub changed : ChangesTo edit (cell_text_at design cell).lines lines
  pub made : new
      ≡ laid_out
      (record design { cells = slice_set design.cells cell (record (cell_text_at design cell) { lines = lines }) })

-- a design with a line more, or with a line less
abbrev pub HasLinesAfter : EditLine → Design → Design → Type 0
HasLinesAfter (Add cell vertical a b at_most n) design new = lines_in new ≡ lines_in design + 1
HasLinesAfter (Take cell k) design new = lines_in new + 1 ≡ lines_in design
