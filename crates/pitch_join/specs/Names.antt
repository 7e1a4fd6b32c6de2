-- The names of variables that a report prints.
use Rattle.std.specs.Prelude.{ℕ, List, [], ◌∷◌, ◌++◌, length, map, codes, decimal, flat_map, if◌then◌else◌}
use Rattle.std.specs.List.{range_with_len}
use Rattle.lam_geom.specs.declared.boxes.Axis.{Axis}
use Rattle.cell_model.specs.{declared.cell.{Cell.Cell, Node.Node, Axis2.Axis2}, Wiring.is_same_axis, Sound.wire_at}
use Rattle.expand.specs.{declared.master.Master.Master, Variables.crossing}

-- a cell's name, a colon, and a name in it
abbrev pub within_cell : Cell → List ℕ → List ℕ
within_cell cell name = cell.name ++ 58 ∷ name

-- the name of the cross coordinate of wire k, where it lies on the axis
abbrev pub cross_name_along : Axis → Cell → ℕ → Axis2 → List (List ℕ)
cross_name_along axis cell k along = if is_same_axis along (crossing axis) then within_cell cell (35 ∷ decimal k) ∷ []
    else []

abbrev pub cross_name : Axis → Cell → ℕ → List (List ℕ)
cross_name axis cell k = cross_name_along axis cell k (wire_at cell.wires k).along

-- the names of a cell's own variables of an axis: the far border, each node, and each wire that has its cross
-- coordinate there
abbrev pub own_names : Axis → Cell → List (List ℕ)
own_names axis cell =
    (cell.name ++ codes "|") ∷
    (map (λ (node : Node). within_cell cell node.name) cell.nodes
    ++ flat_map (cross_name axis cell) (range_with_len 0 (length cell.wires)))

abbrev pub names_of_master : Axis → Master → List (List ℕ)
names_of_master axis master = own_names axis master.cell

-- the names of the joint variables: the origin, and those of each master
abbrev pub system_names : Axis → List Master → List (List ℕ)
system_names axis masters = codes "0" ∷ flat_map (names_of_master axis) masters
