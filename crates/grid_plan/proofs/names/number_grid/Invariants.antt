use Rattle.std.proofs.Common.{◌≡◌, ◌^◌, ◌<◌, ℕ, length, map, take, get_or}
use Rattle.stick_text.specs.declared.design.RowText.{RowText}
use Rattle.checked_cells.specs.Tables.{known_of}
use Rattle.grid_plan.specs.Numbered.{numbers_in_row}
use Rattle.grid_plan.proofs.names.number_grid.Given as goal

abbrev pub invariant-loop-row : goal.invariant-loop-row
invariant-loop-row l = record {
  numbers : l.numbers.items ≡ map (numbers_in_row (known_of l.cells)) (take l.row l.rows);
  few : (k : ℕ) (d : RowText) → k < l.row → length (get_or l.rows k d).names < 2 ^ 32;
}
