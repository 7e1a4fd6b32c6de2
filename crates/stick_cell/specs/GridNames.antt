-- The names of the grids that the code has checked.
use Rattle.std.specs.Prelude.{ℕ, List, map}
use Rattle.stick_cell.specs.declared.grids.GridNames.{GridNames}

-- the names that the code keeps, in order of their grids
abbrev pub names_in : GridNames → List (List ℕ)
names_in names = map (λ name. name.now) names.seen.keys
