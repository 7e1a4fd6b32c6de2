-- The grids of a design: none has the name of one before it. The cells are checked first.
use Rattle.std.specs.Prelude.{ℕ, Bool, true, not, bytes_eq, List, [], ◌∷◌, ◌++◌, Option, Some, None, Result, Ok}
use Rattle.std.specs.List.{list_any}
use Rattle.rule_table.specs.declared.technology.Tech.{Tech}
use Rattle.stick_text.specs.declared.fault.{StickKind.TheVariants.RepeatedName, StickFault.StickFault}
use Rattle.stick_text.specs.{declared.design.{GridText.GridText, Design.Design}, Reading.{◌>>=◌, demand}, Order.at_line}
use Rattle.checked_cells.specs.{CheckedCell.CheckedCell, Lines.known_cells}

-- the name is none of these
abbrev pub is_new_name : List (List ℕ) → List ℕ → Bool
is_new_name names name = not (list_any (bytes_eq name) names)

-- a grid without a name has none of these
abbrev pub is_new_grid : List (List ℕ) → Option (List ℕ) → Bool
is_new_grid names None = true
is_new_grid names (Some name) = is_new_name names name

abbrev pub with_grid_name : List (List ℕ) → Option (List ℕ) → List (List ℕ)
with_grid_name names None = names
with_grid_name names (Some name) = names ++ name ∷ []

-- grids after grids of these names, or the fault of the first that has a name again
abbrev pub grids_after : List (List ℕ) → List GridText → Result (Unit {0}) StickFault
grids_after names [] = Ok tt
grids_after names (grid ∷ grids) = do
  new ← at_line grid.line (demand (is_new_grid names grid.name) RepeatedName)
  grids_after (with_grid_name names grid.name) grids

-- the cells of a design, or its first fault of a name or a size: in its cells, or else in the names of its grids
unfoldable pub resolved_cells : Tech → Design → Result (List CheckedCell) StickFault
resolved_cells tech design = do
  cells ← known_cells tech design.cells
  apart ← grids_after [] design.grids
  Ok cells
