-- Where no name is unknown, the numbers are of cells.
use Rattle.std.proofs.Common.{◌≡◌, ℕ, ◌^◌, ◌<◌, Option, Some, None, is_none, List, [], ◌∷◌, length, map, get_or}
use Rattle.std.proofs.{Common.{unwrap_or, cond, refl, ap, ◌∙◌, arith}, lemmas.List.{get_or-map, length-map}}
use Rattle.std.specs.{List.{All, AllByRecursion}, Option.option_or}
use Rattle.stick_text.specs.declared.design.{GridText.GridText, RowText.RowText}
use Rattle.stick_text.specs.declared.fault.GridFault.TheVariants.{UnknownCell}
use Rattle.checked_cells.{specs.{CheckedCell.CheckedCell, Lines.number_of}, proofs.TableReads.number-lt}
use Rattle.grid_plan.specs.Faults.{unknown_cell, unknown_in_row, unknown_in, ragged_in, misfit_in, fault_of_rows}
use Rattle.grid_plan.specs.{Faults.{grid_fault, numbered_fault, plan_fault}, Numbered.{cell_named, numbers_in_row}}
use Rattle.grid_plan.specs.{Numbered.{numbers_in_grid, ports_of_cells}, Small.{AreFewRows, AreFewCells}}
use Rattle.grid_plan.proofs.{GoodGrids.no_grid, GridsFit.no_image, GridsRead.{both_none, nowhere, no_text}}
use Rattle.list_facts.proofs.Elements.{by_number, all_map, all_of}

-- ---- cells

number_known : (cells : List CheckedCell) (name : List ℕ) (row col : ℕ) (o : Option ℕ) → number_of cells name ≡ o
    → cond (is_none o) (Some (UnknownCell row col)) None ≡ None → unwrap_or o 0 < length cells
number_known cells name row col None e none = cc
number_known cells name row col (Some k) e none = number-lt cells name k e

name_known : (cells : List CheckedCell) (row col : ℕ) (name : List ℕ) → unknown_cell cells row col name ≡ None
    → cell_named cells name < length cells
name_known cells row col name none = number_known cells name row col (number_of cells name) refl none

row_known : (cells : List CheckedCell) (row : ℕ) (text : RowText) → unknown_in_row cells row text ≡ None
    → AllByRecursion (λ k. k < length cells) (numbers_in_row cells text)
row_known cells row text none =
    all_map (λ k. k < length cells) (cell_named cells) text.names
    (by_number (λ name. cell_named cells name < length cells) text.names []
    (λ j lt. name_known cells row j (get_or text.names j [])
    (nowhere (unknown_cell cells row) text.names none j [] lt)))

pub rows_known : (cells : List CheckedCell) (rows : List RowText) → unknown_in cells rows ≡ None
    → All (All (λ k. k < length cells)) (map (numbers_in_row cells) rows)
rows_known cells rows none =
    all_of (All (λ k. k < length cells)) (map (numbers_in_row cells) rows)
    (all_map (All (λ k. k < length cells)) (numbers_in_row cells) rows
    (by_number (λ text. All (λ k. k < length cells) (numbers_in_row cells text)) rows no_text
    (λ j lt. all_of (λ k. k < length cells) (numbers_in_row cells (get_or rows j no_text))
    (row_known cells j (get_or rows j no_text) (nowhere (unknown_in_row cells) rows none j no_text lt)))))

grid_known : (cells : List CheckedCell) (grid : GridText) (rows : List RowText) → fault_of_rows cells grid rows ≡ None
    → All (All (λ k. k < length cells)) (map (numbers_in_row cells) rows)
grid_known cells grid [] none = rows_known cells [] refl
grid_known cells grid (row ∷ rows) none =
    rows_known cells (row ∷ rows)
    (both_none (unknown_in cells (row ∷ rows))
    (option_or (ragged_in (row ∷ rows)) (misfit_in (ports_of_cells cells) (numbers_in_grid cells grid))) none).0

pub grids_known : (cells : List CheckedCell) (grids : List GridText) → plan_fault cells grids ≡ None
    → All (All (All (λ k. k < length cells))) (map (numbers_in_grid cells) grids)
unfolding plan_fault
grids_known cells grids none =
    all_of (All (All (λ k. k < length cells))) (map (numbers_in_grid cells) grids)
    (all_map (All (All (λ k. k < length cells))) (numbers_in_grid cells) grids
    (by_number (λ grid. All (All (λ k. k < length cells)) (numbers_in_grid cells grid)) grids no_grid
    (λ j lt.
    grid_known cells (get_or grids j no_grid) (get_or grids j no_grid).rows
    (no_image _ (grid_fault cells (get_or grids j no_grid)) (nowhere (numbered_fault cells) grids none j no_grid lt)))))

-- ---- how many

pub few_cells : (cells : List CheckedCell) (rows : List RowText) → AreFewRows rows
    → AreFewCells (map (numbers_in_row cells) rows)
few_cells cells rows few =
    let many = length-map rows (numbers_in_row cells) in
    let few_rows = few.rows in
    record {
      rows = omega arith;
      cells = all_of (λ (row : List ℕ). length row < 2 ^ 32) (map (numbers_in_row cells) rows)
          (all_map (λ (row : List ℕ). length row < 2 ^ 32) (numbers_in_row cells) rows
          (by_number (λ (text : RowText). length (numbers_in_row cells text) < 2 ^ 32) rows no_text
          (λ j lt.
          (let one = few.names j no_text lt in let e = length-map (get_or rows j no_text).names
          (cell_named cells) in omega arith))));
    }

-- ---- one grid among all

pub numbers_at : (cells : List CheckedCell) (grids : List GridText) (numbers : List (List (List ℕ))) (g : ℕ)
    (d : List (List ℕ)) (e : GridText) → numbers ≡ map (numbers_in_grid cells) grids → g < length grids
    → get_or numbers g d ≡ numbers_in_grid cells (get_or grids g e)
numbers_at cells grids numbers g d e is lt = ap (λ (xs : List (List (List ℕ))). get_or xs g d) is
    ∙ get_or-map (numbers_in_grid cells) grids g e d lt
