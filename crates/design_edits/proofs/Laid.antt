-- A design with another cell in the place of one, with the numbers of its canonical text.
use Rattle.std.proofs.Common.{◌≡◌, ℕ, zero, suc, ◌+◌, ◌<◌, List, [], ◌∷◌, length, map, get_or, set, inl, inr, refl, ap}
use Rattle.std.proofs.{Common.{◌∙◌, arith}, lemmas.List.{get_or_default, length-set, Sums.{sum_by-set, sum_by-cons}}}
use Rattle.std.{proofs.lemmas.List.Sums.get_or-le-sum_by, specs.{Prelude.sum_by, List.AllByRecursion}}
use Rattle.list_facts.proofs.Elements.{all_at}
use Rattle.stick_text.specs.declared.design.{Line.Line, CellText.CellText, GridText.GridText, Design.Design}
use Rattle.stick_text.specs.Writable.{IsLine, IsCell, IsGrid, IsOneUnnamed, HasName, AreGridsOf, IsWritable}
use Rattle.stick_print.specs.ReadBack.{lines_from, cells_from, line_after_cells, grids_from, laid_out, without_line}
use Rattle.design_edits.specs.Cells.{cell_text_at, no_cell}
use Rattle.design_sizes.specs.Sizes.{lines_of_cell, lines_of_grid, lines_in}

-- the text that the code reads
pub text_here : (design : Design) (cells : List CellText) (k : ℕ) (text : CellText) → cells ≡ design.cells
    → k < length design.cells → text ≡ get_or cells k text → text ≡ cell_text_at design k
text_here design cells k text e lt is = is ∙ ap (λ (l : List CellText). get_or l k text) e
    ∙ get_or_default design.cells k text no_cell lt

-- ---- what numbers do not change

length-lines_from : (n : ℕ) (lines : List Line) → length (lines_from n lines) ≡ length lines
length-lines_from n [] = refl
length-lines_from n (line ∷ lines) = omega (arith, length-lines_from (n + 1) lines)

length-cells_from : (n : ℕ) (cells : List CellText) → length (cells_from n cells) ≡ length cells
length-cells_from n [] = refl
length-cells_from n (cell ∷ cells) = omega (arith, length-cells_from (n + 1 + length cell.lines + 1) cells)

length-grids_from : (n : ℕ) (grids : List GridText) → length (grids_from n grids) ≡ length grids
length-grids_from n [] = refl
length-grids_from n (grid ∷ grids) = omega (arith, length-grids_from (n + 1 + length grid.rows + 1) grids)

lines_written : (n : ℕ) (lines : List Line) → AllByRecursion IsLine lines → AllByRecursion IsLine (lines_from n lines)
lines_written n [] is = tt
lines_written n (line ∷ lines) is = (is.0, lines_written (n + 1) lines is.1)

cells_written : (n : ℕ) (cells : List CellText) → AllByRecursion IsCell cells
    → AllByRecursion IsCell (cells_from n cells)
cells_written n [] is = tt
cells_written n (cell ∷ cells) is =
    ((is.0.0, lines_written (n + 1) cell.lines is.0.1), cells_written (n + 1 + length cell.lines + 1) cells is.1)

grids_written : (n : ℕ) (grids : List GridText) → AllByRecursion IsGrid grids
    → AllByRecursion IsGrid (grids_from n grids)
grids_written n [] is = tt
grids_written n (grid ∷ grids) is = (is.0, grids_written (n + 1 + length grid.rows + 1) grids is.1)

have_names : (n : ℕ) (grids : List GridText) → AllByRecursion HasName grids
    → AllByRecursion HasName (grids_from n grids)
have_names n [] is = tt
have_names n (grid ∷ grids) is = (is.0, have_names (n + 1 + length grid.rows + 1) grids is.1)

one_grid : (n : ℕ) (grids : List GridText) → IsOneUnnamed grids → IsOneUnnamed (grids_from n grids)
one_grid n grids is =
    (record { name = is.0.name; line = n; rows = is.0.rows }, ap (grids_from n) is.1, is.2)

grids_fit : (version n : ℕ) (grids : List GridText) → AreGridsOf version grids → AreGridsOf version (grids_from n grids)
grids_fit version n grids (inl is) = inl (is.0, one_grid n grids is.1)
grids_fit version n grids (inr is) =
    inr (is.0, (omega (arith, is.1.0, length-grids_from n grids), have_names n grids is.1.1))

-- one cell is another
set_written : (cells : List CellText) (k : ℕ) (cell : CellText) → IsCell cell → AllByRecursion IsCell cells
    → AllByRecursion IsCell (set cells k cell)
set_written [] k cell is all = tt
set_written (c ∷ cells) zero cell is all = (is, all.1)
set_written (c ∷ cells) (suc k) cell is all = (all.0, set_written cells k cell is all.1)

pub laid_is_writable : (design : Design) (k : ℕ) (lines : List Line) → IsWritable design → k < length design.cells
    → AllByRecursion IsLine lines
    → IsWritable
    (laid_out (record design { cells = set design.cells k (record (cell_text_at design k) { lines = lines }) }))
laid_is_writable design k lines is lt written =
    let cell : CellText = record (cell_text_at design k) { lines = lines } in
    let named = (all_at IsCell design.cells no_cell k is.cells lt).0 in
    record {
      cells = cells_written 2 (set design.cells k cell) (set_written design.cells k cell (named, written) is.cells);
      few_cells =
          omega (arith, length-cells_from 2 (set design.cells k cell), length-set design.cells k cell, is.few_cells);
      grids = grids_written (line_after_cells 2 (set design.cells k cell)) design.grids is.grids;
      fits = grids_fit design.version (line_after_cells 2 (set design.cells k cell)) design.grids is.fits;
    }

pub grids_same : (n : ℕ) (grids : List GridText) → map without_line (grids_from n grids) ≡ map without_line grids
grids_same n [] = refl
grids_same n (grid ∷ grids) =
    ap (λ (l : List GridText). without_line grid ∷ l) (grids_same (n + 1 + length grid.rows + 1) grids)

-- ---- how many lines

sum_cells : (n : ℕ) (cells : List CellText) → sum_by lines_of_cell (cells_from n cells) ≡ sum_by lines_of_cell cells
sum_cells n [] = refl
sum_cells n (cell ∷ cells) =
    omega (
      arith,
      sum_by-cons lines_of_cell
          (record {
            name = cell.name;
            line = n;
            end_line = n + 1 + length cell.lines;
            lines = lines_from (n + 1) cell.lines;
          }) (cells_from (n + 1 + length cell.lines + 1) cells),
      sum_by-cons lines_of_cell cell cells,
      sum_cells (n + 1 + length cell.lines + 1) cells,
      length-lines_from (n + 1) cell.lines,
    )

sum_grids : (n : ℕ) (grids : List GridText) → sum_by lines_of_grid (grids_from n grids) ≡ sum_by lines_of_grid grids
sum_grids n [] = refl
sum_grids n (grid ∷ grids) =
    omega (
      arith,
      sum_by-cons lines_of_grid (record { name = grid.name; line = n; rows = grid.rows })
          (grids_from (n + 1 + length grid.rows + 1) grids),
      sum_by-cons lines_of_grid grid grids,
      sum_grids
          (n + 1 + length grid.rows + 1) grids,
    )

-- as many more or fewer as the cell has
pub lines_of_laid : (design : Design) (k : ℕ) (cell : CellText) → k < length design.cells
    → lines_in (laid_out (record design { cells = set design.cells k cell })) + length
    (get_or design.cells k no_cell).lines ≡ lines_in design + length cell.lines
lines_of_laid design k cell lt =
    omega (
      arith,
      sum_cells 2 (set design.cells k cell),
      sum_grids (line_after_cells 2 (set design.cells k cell))
          design.grids,
      sum_by-set lines_of_cell design.cells k cell no_cell lt,
    )

pub more_lines : (design : Design) (k : ℕ) (cell : CellText) → k < length design.cells
    → length cell.lines ≡ length (get_or design.cells k no_cell).lines + 4
    → lines_in (laid_out (record design { cells = set design.cells k cell })) ≡ lines_in design + 4
more_lines design k cell lt e = omega (arith, lines_of_laid design k cell lt, e)

-- a cell has no more lines than the design
pub few_lines : (design : Design) (k : ℕ) → k < length design.cells
    → 2 + length (get_or design.cells k no_cell).lines < lines_in design
few_lines design k lt = omega (arith, get_or-le-sum_by lines_of_cell design.cells k no_cell lt)
