-- The lines of a design stand in a text that says it.
use Rattle.std.proofs.Common.{◌≡◌, ℕ, ◌+◌, ◌*◌, ◌≤◌, List, [], ◌∷◌, ◌++◌, length, map, Option, Some, None, Result, Ok}
use Rattle.std.proofs.{Common.{Err, ap, arith}, lemmas.List.Sums.sum_by-cons}
use Rattle.std.specs.{List.{sum_by, flat_map}, Str.Lines.lines}
use Rattle.stick_lex.proofs.Loop.{width}
use Rattle.stick_text.specs.declared.{fault.StickKind.StickKind, design.{Line.Line, CellText.CellText, RowText.RowText}}
use Rattle.stick_text.specs.declared.design.{GridText.GridText, Design.Design, Statement.{Statement, TheVariants.Row}}
use Rattle.stick_text.specs.{declared.design.Statement.TheVariants.End, Lines.{said_by, Entry, with_entry, entries}}
use Rattle.stick_text.specs.{Order.design_of, Says.{saying, form_line, cell_part, IsGridPart, AreGridParts, AreLinesOf}}
use Rattle.stick_text.{specs.Says.said_lines, proofs.Shapes.design_said}
use Rattle.design_sizes.specs.Sizes.{lines_of_cell, lines_of_grid, lines_in}
use Rattle.design_sizes.proofs.{Lines.lines_with_ends, Long.{IsLong, line_is_long}}

-- ---- the lines that can be read

abbrev one_if_read : Result Statement StickKind → ℕ
one_if_read (Ok statement) = 1
one_if_read (Err kind) = 0

abbrev number_read : List (Result Statement StickKind) → ℕ
number_read [] = 0
number_read (read ∷ reads) = one_if_read read + number_read reads

abbrev lines_read : List Entry → ℕ
lines_read entries = number_read (map (λ entry. entry.said) entries)

lines_read-append : (prefix back : List Entry) → lines_read (prefix ++ back) ≡ lines_read prefix + lines_read back
lines_read-append [] back = omega arith
lines_read-append (entry ∷ prefix) back = omega (arith, lines_read-append prefix back)

-- ---- a line that can be read has three bytes, and an end

short_with_entry : (number n m : ℕ) (said : Result (Option Statement) StickKind) (after : List Entry) → IsLong n said
    → 4 * lines_read after ≤ m → 4 * lines_read (with_entry number said after) ≤ n + 1 + m
short_with_entry number n m (Ok (Some statement)) after long fit = omega arith
short_with_entry number n m (Ok None) after long fit = omega arith
short_with_entry number n m (Err kind) after long fit = omega arith

read_in_width : (number : ℕ) (ls : List (List ℕ)) → 4 * lines_read (entries number ls) ≤ width ls
read_in_width number [] = omega arith
read_in_width number (line ∷ ls) =
    short_with_entry number (length line) (width ls) (said_by line) (entries (number + 1) ls) (line_is_long line)
    (read_in_width (number + 1) ls)

-- ---- the lines of a design

lines_of_forms : (ls : List Line) → lines_read (map form_line ls) ≡ length ls
lines_of_forms [] = omega arith
lines_of_forms (line ∷ ls) = omega (arith, lines_of_forms ls)

lines_in_cell : (cell : CellText) → lines_read (cell_part cell) ≡ lines_of_cell cell
lines_in_cell cell =
    omega (
      arith,
      lines_read-append (map form_line cell.lines) (saying cell.end_line End ∷ []),
      lines_of_forms
          cell.lines,
    )

lines_in_cells : (cells : List CellText) → lines_read (flat_map cell_part cells) ≡ sum_by lines_of_cell cells
lines_in_cells [] = omega arith
lines_in_cells (cell ∷ cells) =
    omega (
      arith,
      lines_read-append (cell_part cell) (flat_map cell_part cells),
      lines_in_cell cell,
      lines_in_cells
          cells,
      sum_by-cons lines_of_cell cell cells,
    )

number_of_rows : (rows : List RowText) → number_read (map (λ row. Ok (Row row)) rows) ≡ length rows
number_of_rows [] = omega arith
number_of_rows (row ∷ rows) = omega (arith, number_of_rows rows)

lines_in_grid : (grid : GridText) (part : List Entry) → IsGridPart grid part → lines_read part ≡ lines_of_grid grid
lines_in_grid grid part is =
    omega (
      arith,
      ap lines_read is.parts,
      lines_read-append is.inner (saying is.last End ∷ []),
      ap number_read
          is.each,
      number_of_rows grid.rows,
    )

lines_in_grids : (grids : List GridText) (es : List Entry) → AreGridParts grids es
    → lines_read es ≡ sum_by lines_of_grid grids
lines_in_grids [] es are = omega (arith, ap lines_read are)
lines_in_grids (grid ∷ grids) es are =
    omega (
      arith,
      ap lines_read are.2,
      lines_read-append are.0 are.1,
      lines_in_grid grid are.0 are.3,
      lines_in_grids
          grids are.1 are.4,
      sum_by-cons lines_of_grid grid grids,
    )

lines_in_design : (design : Design) (es : List Entry) → AreLinesOf design es → lines_read es ≡ lines_in design
lines_in_design design es are =
    omega (
      arith,
      ap lines_read are.parts,
      lines_read-append (flat_map cell_part design.cells)
          are.grids,
      lines_in_cells design.cells,
      lines_in_grids design.grids are.grids are.grid_parts,
    )

pub few_lines : (text : List ℕ) (design : Design) → design_of text ≡ Ok design → 4 * lines_in design ≤ length text + 1
few_lines text design e =
    omega (
      arith,
      lines_in_design design (said_lines text) (design_said text design e).has_lines,
      read_in_width 1
          (lines text),
      lines_with_ends text,
    )
