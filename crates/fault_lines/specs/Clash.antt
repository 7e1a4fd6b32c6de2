-- The line of a clash.
use Rattle.std.specs.Prelude.{ℕ, ◌-◌, List, [], ◌∷◌, ◌++◌, length, codes, decimal, nat_lt, if◌then◌else◌}
use Rattle.cell_model.specs.{declared.cell.Cell.Cell, Sound.node_at}

-- a part of a cell: a node by the path to it, a wire by its number
abbrev pub part_text : Cell → ℕ → List ℕ
part_text cell k = if nat_lt k (length cell.nodes) then (node_at cell.nodes k).name
    else (35 ∷ decimal (k - length cell.nodes))

-- the line of a clash between two parts
abbrev pub clash_text : Cell → ℕ → ℕ → List ℕ
clash_text cell a b =
    codes "sticks: clash in "
    ++ (cell.name ++ (codes " between " ++ (part_text cell a ++ (codes " and " ++ (part_text cell b ++ (10 ∷ []))))))
