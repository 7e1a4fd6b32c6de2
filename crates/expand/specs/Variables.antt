-- The local variables of a cell on an axis: 0 the origin border, 1 the far border, then the centre of each node in
-- order, and then the cross coordinate of each wire that runs along the other axis, in order.
use Rattle.std.specs.{Prelude.{ℕ, ◌+◌, ℤ, pos, int_div, List, length, take}, List.count_by}
use Rattle.lam_geom.specs.declared.boxes.Axis.{Axis, TheVariants.{X, Y}}
use Rattle.sym_items.specs.declared.items.End.{End}
use Rattle.cell_model.specs.declared.cell.{Axis2.{Axis2, TheVariants.{Across, Up}}, Wire.Wire, Cell.Cell}
use Rattle.cell_model.specs.{Wiring.is_same_axis, Sound.wire_at}

-- half of a length
abbrev pub half : ℤ → ℤ
half z = int_div z (pos 2)

-- the centre of node k, on either axis
abbrev pub centre : ℕ → ℕ
centre k = 2 + k

-- how many of some wires run along an axis
abbrev pub running : Axis2 → List Wire → ℕ
running along wires = count_by (λ wire. is_same_axis wire.along along) wires

-- the cross coordinate of wire k, on the axis across its run
abbrev pub cross_of : Cell → ℕ → ℕ
cross_of cell k = 2 + length cell.nodes + running (wire_at cell.wires k).along (take k cell.wires)

-- how a wire runs that has its cross coordinate on this axis
abbrev pub crossing : Axis → Axis2
crossing X = Up
crossing Y = Across

-- how many variables the axis has
abbrev pub variables_of : Axis → Cell → ℕ
variables_of axis cell = 2 + length cell.nodes + running (crossing axis) cell.wires

-- the end so far past a variable
abbrev pub past : ℕ → ℤ → End
past variable off = record { var = variable; off = off }

-- the ends on the two borders
abbrev pub at_origin : End
at_origin = past 0 (pos 0)

abbrev pub at_far_border : End
at_far_border = past 1 (pos 0)
