-- Line numbers are no part of a canonical text, and are set once.
use Rattle.std.{proofs.Common.{◌≡◌, ℕ, suc, ◌+◌, List, [], ◌∷◌, ◌++◌, length, refl, ap, ◌∙◌}, specs.List.flat_map}
use Rattle.stick_text.specs.declared.design.{Line.Line, CellText.CellText, GridText.GridText, Design.Design}
use Rattle.stick_text.specs.declared.design.Statement.TheVariants.{Version, Cell, End}
use Rattle.stick_print.specs.{Canonical.{line_of, item_line, cell_lines, grid_lines, canonical}, ReadBack.lines_from}
use Rattle.stick_print.specs.ReadBack.{cells_from, line_after_cells, grids_from, laid_out}

-- ---- the same text

text_of_lines : (k : ℕ) (ls : List Line) → flat_map item_line (lines_from k ls) ≡ flat_map item_line ls
text_of_lines k [] = refl
text_of_lines k (line ∷ ls) = ap (λ (text : List ℕ). item_line line ++ text) (text_of_lines (k + 1) ls)

text_of_cells : (k : ℕ) (cells : List CellText) → flat_map cell_lines (cells_from k cells) ≡ flat_map cell_lines cells
unfolding cell_lines
text_of_cells k [] = refl
text_of_cells k (cell ∷ cells) =
    let next : ℕ = k + 1 + length cell.lines + 1 in
    ap (λ (items : List ℕ). (line_of (Cell cell.name) ++ (items ++ line_of End))
    ++ flat_map cell_lines (cells_from next cells)) (text_of_lines (k + 1) cell.lines)
    ∙ ap (λ (text : List ℕ). cell_lines cell ++ text) (text_of_cells next cells)

text_of_grids : (k : ℕ) (grids : List GridText) → flat_map grid_lines (grids_from k grids) ≡ flat_map grid_lines grids
unfolding grid_lines
text_of_grids k [] = refl
text_of_grids k (grid ∷ grids) =
    ap (λ (text : List ℕ). grid_lines grid ++ text) (text_of_grids (k + 1 + length grid.rows + 1) grids)

pub same_text : (design : Design) → canonical (laid_out design) ≡ canonical design
unfolding canonical
same_text design =
    ap (λ (cells : List ℕ). line_of (Version design.version)
    ++ (cells ++ flat_map grid_lines (grids_from (line_after_cells 2 design.cells) design.grids))) (text_of_cells
    2 design.cells)
    ∙ ap (λ (grids : List ℕ). line_of (Version design.version) ++ (flat_map cell_lines design.cells ++ grids))
    (text_of_grids (line_after_cells 2 design.cells) design.grids)

-- ---- numbers are set once

as_many : (k : ℕ) (ls : List Line) → length (lines_from k ls) ≡ length ls
as_many k [] = refl
as_many k (line ∷ ls) = ap suc (as_many (k + 1) ls)

lines_once : (k j : ℕ) (ls : List Line) → lines_from k (lines_from j ls) ≡ lines_from k ls
lines_once k j [] = refl
lines_once k j (line ∷ ls) = ap (λ (rest : List Line). record { number = k; form = line.form } ∷ rest)
    (lines_once (k + 1) (j + 1) ls)

cells_once : (k j : ℕ) (cells : List CellText) → cells_from k (cells_from j cells) ≡ cells_from k cells
cells_once k j [] = refl
cells_once k j (cell ∷ cells) =
    let inner = as_many (j + 1) cell.lines in
    let same = lines_once (k + 1) (j + 1) cell.lines in
    let after = cells_once (k + 1 + length cell.lines + 1) (j + 1 + length cell.lines + 1) cells in
    cc

after_once : (k j : ℕ) (cells : List CellText) → line_after_cells k (cells_from j cells) ≡ line_after_cells k cells
after_once k j [] = refl
after_once k j (cell ∷ cells) =
    let next : ℕ = j + 1 + length cell.lines + 1 in
    ap (λ (n : ℕ). line_after_cells (k + 1 + n + 1) (cells_from next cells)) (as_many (j + 1) cell.lines)
    ∙ after_once (k + 1 + length cell.lines + 1) next cells

grids_once : (k j : ℕ) (grids : List GridText) → grids_from k (grids_from j grids) ≡ grids_from k grids
grids_once k j [] = refl
grids_once k j (grid ∷ grids) =
    ap (λ (rest : List GridText). record { name = grid.name; line = k; rows = grid.rows } ∷ rest)
    (grids_once (k + 1 + length grid.rows + 1) (j + 1 + length grid.rows + 1) grids)

pub set_once : (design : Design) → laid_out (laid_out design) ≡ laid_out design
set_once design =
    let cells = cells_once 2 2 design.cells in
    let after = after_once 2 2 design.cells in
    let grids = grids_once (line_after_cells 2 design.cells) (line_after_cells 2 design.cells) design.grids in
    cc
