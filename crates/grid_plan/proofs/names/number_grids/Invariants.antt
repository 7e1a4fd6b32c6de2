use Rattle.std.proofs.Common.{◌≡◌, ◌<◌, ℕ, map, take, get_or}
use Rattle.stick_text.specs.declared.design.GridText.{GridText}
use Rattle.checked_cells.specs.Tables.{known_of}
use Rattle.grid_plan.specs.{Numbered.numbers_in_grid, Small.AreFewRows}
use Rattle.grid_plan.proofs.names.number_grids.Given as goal

abbrev pub invariant-loop-grid : goal.invariant-loop-grid
invariant-loop-grid l = record {
  numbers : l.numbers.items ≡ map (numbers_in_grid (known_of l.cells)) (take l.grid l.grids);
  few : (k : ℕ) (d : GridText) → k < l.grid → AreFewRows (get_or l.grids k d).rows;
}
