-- Coarse ranges: the grid points that a part takes up on the coarse grid. A grid point is a column and a row.
use Rattle.std.specs.Prelude.{ℕ, ◌-◌, ◌≤◌, nat_lt, if◌then◌else◌, length}
use Rattle.cell_model.specs.declared.cell.{Axis2.{Axis2, TheVariants.{Across, Up}}, WireEnd.WireEnd, Wire.Wire}
use Rattle.cell_model.specs.{declared.cell.Cell.Cell, Wiring.is_same_axis, Sound.{node_at, wire_at, line_at}}
use Rattle.cell_model.specs.declared.cell.WireEnd.TheVariants as ends
use Rattle.coarse_grid.specs.Start.{node_line, last_line}

-- the lines of an axis from one to another
pub record Lines : Type 0 where
  pub first : ℕ
  pub last : ℕ

abbrev pub IsAmong : Lines → ℕ → Type 0
IsAmong lines line = (lines.first ≤ line) × (line ≤ lines.last)

-- one line alone
abbrev pub only : ℕ → Lines
only line = record { first = line; last = line }

-- the line on which a wire that runs along an axis begins there, and the one on which it ends: a node's line; at a
-- port it goes on to the border
abbrev pub low_line : Axis2 → Cell → WireEnd → ℕ
low_line axis cell (ends.Node k) = node_line axis (node_at cell.nodes k)
low_line axis cell (ends.Port k) = 0

abbrev pub high_line : Axis2 → Cell → WireEnd → ℕ
high_line axis cell (ends.Node k) = node_line axis (node_at cell.nodes k)
high_line axis cell (ends.Port k) = last_line axis cell

-- a node takes up its grid point, a wire the grid points from terminal to terminal
abbrev pub node_lines : Axis2 → Cell → ℕ → Lines
node_lines axis cell k = only (node_line axis (node_at cell.nodes k))

abbrev pub wire_lines : Axis2 → Cell → Wire → Lines
wire_lines axis cell wire =
    if is_same_axis axis wire.along
    then record { first = low_line axis cell wire.low; last = high_line axis cell wire.high }
    else only (line_at cell wire.along wire.low)

-- the lines that an owner of items takes up on an axis: nodes are numbered first, and then wires
abbrev pub lines_of : Axis2 → Cell → ℕ → Lines
lines_of axis cell owner =
    if nat_lt owner (length cell.nodes) then node_lines axis cell owner
    else wire_lines axis cell (wire_at cell.wires (owner - length cell.nodes))

-- a grid point lies in the coarse range of an owner
abbrev pub Covers : Cell → ℕ → ℕ → ℕ → Type 0
Covers cell owner col row = IsAmong (lines_of Across cell owner) col × IsAmong (lines_of Up cell owner) row

-- two owners' coarse ranges share no grid point
abbrev pub AreApart : Cell → ℕ → ℕ → Type 0
AreApart cell a b = (col row : ℕ) → Covers cell a col row → Covers cell b col row → ⊥

-- two owners' coarse ranges share a grid point
abbrev pub ShareAPoint : Cell → ℕ → ℕ → Type 0
ShareAPoint cell a b = (col : ℕ) × (row : ℕ) × (Covers cell a col row × Covers cell b col row)
