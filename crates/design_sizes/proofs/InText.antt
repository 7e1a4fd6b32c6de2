-- Each line of a canonical text has four bytes or more: a keyword, and a line feed after the words.
use Rattle.std.proofs.{Common.{ℕ, ◌*◌, ◌≤◌, List, [], ◌∷◌, ◌++◌, length, arith}, lemmas.List.length-append}
use Rattle.std.{proofs.lemmas.List.Sums.sum_by-cons, specs.List.{sum_by, flat_map}}
use Rattle.stick_text.specs.declared.design.{CellText.CellText, GridText.GridText, Design.Design, Statement.Statement}
use Rattle.stick_text.specs.declared.design.Statement.TheVariants.{Version, Cell, Item, Grid, Row, End}
use Rattle.stick_print.specs.Canonical.{keyword_of, words_of, spaced, line_of, item_line, row_line, cell_lines}
use Rattle.stick_print.specs.Canonical.{grid_lines, canonical}
use Rattle.design_sizes.{specs.Sizes.{lines_of_cell, lines_of_grid, lines_in}, proofs.Long.keyword_is_long}

four_bytes : (statement : Statement) → 4 ≤ length (line_of statement)
unfolding line_of
four_bytes statement =
    omega (
      arith,
      length-append (keyword_of statement) (spaced (words_of statement) ++ 10 ∷ []),
      length-append
          (spaced (words_of statement)) (10 ∷ []),
      keyword_is_long statement,
    )

-- four bytes for each line of each part
four_each : {X : Type 0} (text : X → List ℕ) (lines : X → ℕ) → ((x : X) → 4 * lines x ≤ length (text x))
    → (xs : List X) → 4 * sum_by lines xs ≤ length (flat_map text xs)
four_each text lines each [] = omega arith
four_each text lines each (x ∷ xs) =
    omega (
      arith,
      each x,
      four_each text lines each xs,
      length-append (text x) (flat_map text xs),
      sum_by-cons lines x
          xs,
    )

-- where each part is one line
four_a_line : {X : Type 0} (text : X → List ℕ) → ((x : X) → 4 ≤ length (text x)) → (xs : List X)
    → 4 * length xs ≤ length (flat_map text xs)
four_a_line text each [] = omega arith
four_a_line text each (x ∷ xs) =
    omega (arith, each x, four_a_line text each xs, length-append (text x) (flat_map text xs))

in_cell : (cell : CellText) → 4 * lines_of_cell cell ≤ length (cell_lines cell)
unfolding cell_lines
in_cell cell =
    let items = flat_map item_line cell.lines in
    omega (
      arith,
      four_bytes (Cell cell.name),
      four_a_line item_line (λ line. four_bytes (Item line.form)) cell.lines,
      four_bytes End,
      length-append (line_of (Cell cell.name)) (items ++ line_of End),
      length-append items (line_of End),
    )

in_grid : (grid : GridText) → 4 * lines_of_grid grid ≤ length (grid_lines grid)
unfolding grid_lines
in_grid grid =
    let rows = flat_map row_line grid.rows in
    omega (
      arith,
      four_bytes (Grid grid.name),
      four_a_line row_line (λ row. four_bytes (Row row)) grid.rows,
      four_bytes End,
      length-append (line_of (Grid grid.name)) (rows ++ line_of End),
      length-append rows (line_of End),
    )

pub in_canonical : (design : Design) → 4 * lines_in design ≤ length (canonical design)
unfolding canonical
in_canonical design =
    let cells = flat_map cell_lines design.cells in
    let grids = flat_map grid_lines design.grids in
    omega (
      arith,
      four_bytes (Version design.version),
      four_each cell_lines lines_of_cell in_cell design.cells,
      four_each grid_lines lines_of_grid in_grid design.grids,
      length-append (line_of (Version design.version)) (cells ++ grids),
      length-append cells grids,
    )
