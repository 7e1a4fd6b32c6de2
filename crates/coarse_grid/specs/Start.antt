-- The start layout of a cell: everything as it is drawn, a pitch from column to column and from row to row. All is
-- said of one axis: of `Across`, which is x, and of `Up`, which is y.
use Rattle.std.specs.Prelude.{ℕ, ◌+◌, max, ℤ, pos, ◌*ℤ◌, List, [], ◌∷◌, ◌++◌, map, fold, flat_map, if◌then◌else◌}
use Rattle.rule_table.specs.declared.technology.Tech.{Tech}
use Rattle.cell_model.specs.declared.cell.{Axis2.{Axis2, TheVariants.{Across, Up}}, Node.Node, Port.Port, Wire.Wire}
use Rattle.cell_model.specs.{declared.cell.Cell.Cell, Wiring.{is_same_axis, axis_of}, Sound.line_at}
use Rattle.sym_items.specs.declared.items.Coords.{Coords}
use Rattle.coarse_grid.specs.Extent.{pitch_of}

-- the column of a node, which is its line on x, and its row, which is that on y
abbrev pub node_line : Axis2 → Node → ℕ
node_line Across node = node.col
node_line Up node = node.row

-- the column of a bottom or top port, the row of a left or right one: nothing on the axis on which its wire reaches it
abbrev pub port_lines : Axis2 → Port → List ℕ
port_lines axis port = if is_same_axis axis (axis_of port.side) then [] else port.place ∷ []

-- the greatest line of a node or a port, 0 if there is none
unfoldable pub last_line : Axis2 → Cell → ℕ
last_line axis cell = fold max 0 (map (node_line axis) cell.nodes ++ flat_map (port_lines axis) cell.ports)

-- where a line starts
unfoldable pub place : ℤ → ℕ → ℤ
place pitch line = pitch *ℤ pos (line + 1)

-- where the far border starts: a pitch past the last line
abbrev pub far_border : ℤ → Axis2 → Cell → ℤ
far_border pitch axis cell = place pitch (last_line axis cell + 1)

-- where the cross coordinate of a wire starts: at its column or row; a wire that runs along the axis has none on it
abbrev pub cross_places : ℤ → Axis2 → Cell → Wire → List ℤ
cross_places pitch axis cell wire = if is_same_axis axis wire.along then []
    else place pitch (line_at cell wire.along wire.low) ∷ []

-- the start value of each variable of an axis: the origin, the far border, each node's centre, and each cross
-- coordinate
abbrev pub start_values : ℤ → Axis2 → Cell → List ℤ
start_values pitch axis cell =
    pos 0 ∷ far_border pitch axis cell ∷
    (map (λ (node : Node). place pitch (node_line axis node)) cell.nodes
    ++ flat_map (cross_places pitch axis cell) cell.wires)

-- the start layout
abbrev pub start_of : Tech → Cell → Coords
start_of tech cell =
    record { x = start_values (pitch_of tech cell) Across cell; y = start_values (pitch_of tech cell) Up cell }
