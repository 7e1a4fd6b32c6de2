-- What a cell weighs, and how many mask boxes it has, with its uses inlined.
use Rattle.std.specs.Prelude.{ℕ, ◌+◌, min, length}
use Rattle.cell_model.specs.Counts.{items_in, boxes_in}
use Rattle.checked_cells.specs.CheckedCell.{CheckedCell, cell_of}

-- items, limits, and the uses that were replaced on all levels
unfoldable pub weight_of : CheckedCell → ℕ
weight_of known = items_in (cell_of known) + length known.limits + known.copies

unfoldable pub boxes_of : CheckedCell → ℕ
boxes_of known = boxes_in (cell_of known)

-- what is past 65,536 counts as 65,537
abbrev pub capped : ℕ → ℕ
capped n = min n 65537
