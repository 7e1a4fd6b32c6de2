-- What the code keeps: the ports of the cells on the sides of borders.
use Rattle.std.specs.{Prelude.{ℕ, List, [], map, slice_index, slice_index_or}, List.zip}
use Rattle.cell_model.specs.declared.cell.CellPort.{CellPort}
use Rattle.plan_model.specs.{declared.plan.Match.Match, Borders.match_of}

-- the ports of a cell on a side, from those of each cell
abbrev pub side_at : List (List CellPort) → ℕ → List CellPort
side_at sides k = slice_index_or sides k []

-- the ports that meet where two masters do, from the sides of their cells
abbrev pub meeting_of : List (List CellPort) → List (List CellPort) → List ℕ → ℕ × ℕ → List Match
meeting_of before after masters pair =
    map (match_of pair)
    (zip (side_at before (slice_index masters pair.0)) (side_at after (slice_index masters pair.1)))
