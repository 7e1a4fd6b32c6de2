-- What is known of grids without a fault.
use Rattle.std.proofs.{Common.{◌≡◌, ℕ, ◌<◌, None, List, [], ◌∷◌, length, map, get_or, arith}, lemmas.List.length-map}
use Rattle.std.specs.{List.AllByRecursion, Option.option_or}
use Rattle.lam_geom.specs.declared.boxes.Axis.{Axis}
use Rattle.stick_text.specs.{declared.design.{GridText.GridText, RowText.RowText}, Writable.{IsRow, IsGrid}}
use Rattle.checked_cells.specs.CheckedCell.{CheckedCell}
use Rattle.plan_model.specs.{Borders.FitsAt, Plan.meeting, Rows.IsRectangular}
use Rattle.grid_plan.specs.Faults.{fault_of_rows, grid_fault, numbered_fault, plan_fault, unknown_in, ragged_in}
use Rattle.grid_plan.specs.{Faults.misfit_in, Numbered.{cell_named, numbers_in_row, numbers_in_grid, ports_of_cells}}
use Rattle.grid_plan.proofs.{GridsFit.{all_fit, no_image}, GridsRead.{both_none, equal_rows, nowhere}}
use Rattle.list_facts.proofs.Elements.{all_at, by_number, all_map}

pub record IsGood (cells : List CheckedCell) (rows : List (List ℕ)) : Type 0 where
  pub rectangular : IsRectangular rows
  pub fits : (axis : Axis) → AllByRecursion (FitsAt axis (ports_of_cells cells)) (meeting axis rows)

good_rows : (cells : List CheckedCell) (grid : GridText) (rows : List RowText) → AllByRecursion IsRow rows
    → fault_of_rows cells grid rows ≡ None
    → IsRectangular (map (numbers_in_row cells) rows)
    × (misfit_in (ports_of_cells cells) (numbers_in_grid cells grid) ≡ None)
good_rows cells grid [] are none = cc
good_rows cells grid (row ∷ rows) are none =
    let unknown = both_none (unknown_in cells (row ∷ rows))
    (option_or (ragged_in (row ∷ rows)) (misfit_in (ports_of_cells cells) (numbers_in_grid cells grid))) none in
    let ragged = both_none (ragged_in (row ∷ rows)) (misfit_in (ports_of_cells cells) (numbers_in_grid cells grid))
    unknown.1 in
    let long : length (map (cell_named cells) row.names) ≡ length row.names = length-map row.names (cell_named cells) in
    let some : 0 < length row.names = are.0.0 in (
      record { some_rows = omega arith; some_columns = omega arith; equal = equal_rows cells (row ∷ rows) ragged.0 },
      ragged.1,
    )

good_grid : (cells : List CheckedCell) (grid : GridText) → IsGrid grid → grid_fault cells grid ≡ None
    → IsGood cells (numbers_in_grid cells grid)
good_grid cells grid is none =
    let good = good_rows cells grid grid.rows is.1 none in
    record {
      rectangular = good.0;
      fits = λ axis. all_fit axis (ports_of_cells cells) (numbers_in_grid cells grid)
          good.1;
    }

pub no_grid : GridText
no_grid = record { name = None; line = 0; rows = [] }

pub good_grids : (cells : List CheckedCell) (grids : List GridText) → AllByRecursion IsGrid grids
    → plan_fault cells grids ≡ None → AllByRecursion (IsGood cells) (map (numbers_in_grid cells) grids)
unfolding plan_fault
good_grids cells grids are none =
    all_map (IsGood cells) (numbers_in_grid cells) grids
    (by_number (λ grid. IsGood cells (numbers_in_grid cells grid)) grids no_grid
    (λ k lt.
    good_grid cells (get_or grids k no_grid) (all_at IsGrid grids no_grid k are lt)
    (no_image _ (grid_fault cells (get_or grids k no_grid)) (nowhere (numbered_fault cells) grids none k no_grid lt))))
