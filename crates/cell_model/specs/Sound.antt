-- What each cell that meets the checks has: its nodes lie near, its wires run straight between two of its terminals
-- that are wide enough for them, poly and diffusion leave a buried contact on different sides, each of its ports has
-- one wire, and its limits are between two nodes.
use Rattle.std.specs.Prelude.{◌≡◌, ℕ, ◌+◌, ◌<◌, ◌≤◌, ℤ, pos, ◌≤ℤ◌, IsTrue, not, ◌⊎◌, List, [], length, slice_index_or}
use Rattle.std.specs.List.{AllByRecursion}
use Rattle.rule_table.specs.{Bounds.IsSize, Technology.{width_of, has_buried_of}}
use Rattle.rule_table.specs.declared.{technology.Tech.Tech, classes.Layer.{Layer, TheVariants.{Diffusion, Poly, Metal}}}
use Rattle.stick_lex.specs.Numbers.{IsNumber}
use Rattle.cell_model.specs.declared.cell.{Axis2.{Axis2, TheVariants.{Across, Up}}, NodeKind.NodeKind}
use Rattle.cell_model.specs.declared.cell.{NodeKind.TheVariants.{Joint, Contact, Buried, Fet}, Node.Node}
use Rattle.cell_model.specs.declared.cell.{WireEnd.WireEnd, Wire.Wire, Port.Port, Limit.Limit, Cell.Cell}
use Rattle.cell_model.specs.Wiring.{axis_of, is_low_side, node_takes, node_takes_along, buried_pad, node_pad}
use Rattle.cell_model.specs.Wiring.{is_same_layer}
use Rattle.cell_model.specs.declared.cell.WireEnd.TheVariants as ends
use Rattle.lam_geom.specs.declared.boxes.Side.TheVariants.{Left}

-- node k and port k of some, where there are so many
abbrev pub no_node : Node
no_node = record { name = []; kind = Joint Metal (pos 0); col = 0; row = 0 }

abbrev pub node_at : List Node → ℕ → Node
node_at nodes k = slice_index_or nodes k no_node

abbrev pub no_port : Port
no_port = record { name = []; side = Left; layer = Metal; place = 0; wire = 0 }

abbrev pub port_at : List Port → ℕ → Port
port_at ports k = slice_index_or ports k no_port

-- sizes are even and lie between the layer's width and 4096; a contact's lower layer is not metal; buried contacts
-- need a technology that has them
abbrev pub IsKind : Tech → NodeKind → Type 0
IsKind tech (Joint layer width) = IsSize width × (width_of tech layer ≤ℤ width)
IsKind tech (Contact lower) = (lower ≡ Metal → ⊥)
IsKind tech Buried = IsTrue (has_buried_of tech)
IsKind tech (Fet depletion gate w l) = IsSize w × IsSize l × (width_of tech Diffusion ≤ℤ w) × (width_of tech Poly ≤ℤ l)

pub record IsNode (tech : Tech) (node : Node) : Type 0 where
  pub col : node.col ≤ 4095
  pub row : node.row ≤ 4095
  pub kind : IsKind tech node.kind

-- the end is a terminal of the cell
abbrev pub IsEnd : Cell → WireEnd → Type 0
IsEnd cell (ends.Node k) = k < length cell.nodes
IsEnd cell (ends.Port k) = k < length cell.ports

-- the end takes a wire of this layer along this axis; if it is a port, it lies on the side that the wire reaches,
-- which is a low one or not
abbrev pub Takes : Cell → Layer → Axis2 → WireEnd → Type 0
Takes cell layer along (ends.Node k) = IsTrue (node_takes (node_at cell.nodes k).kind layer)
    × IsTrue (node_takes_along (node_at cell.nodes k).kind layer along)
Takes cell layer along (ends.Port k) = IsTrue (is_same_layer (port_at cell.ports k).layer layer)
    × (axis_of (port_at cell.ports k).side ≡ along)

abbrev pub IsOnLowSide : Cell → WireEnd → Type 0
IsOnLowSide cell (ends.Node k) = Unit {0}
IsOnLowSide cell (ends.Port k) = IsTrue (is_low_side (port_at cell.ports k).side)

abbrev pub IsOnHighSide : Cell → WireEnd → Type 0
IsOnHighSide cell (ends.Node k) = Unit {0}
IsOnHighSide cell (ends.Port k) = IsTrue (not (is_low_side (port_at cell.ports k).side))

-- the row of the end for a wire that runs across, its column for one that runs up
abbrev pub line_at : Cell → Axis2 → WireEnd → ℕ
line_at cell Across (ends.Node k) = (node_at cell.nodes k).row
line_at cell Up (ends.Node k) = (node_at cell.nodes k).col
line_at cell along (ends.Port k) = (port_at cell.ports k).place

-- of two nodes the low one has the smaller column or row
abbrev pub IsInOrder : Cell → Axis2 → WireEnd → WireEnd → Type 0
IsInOrder cell Across (ends.Node j) (ends.Node k) = (node_at cell.nodes j).col < (node_at cell.nodes k).col
IsInOrder cell Up (ends.Node j) (ends.Node k) = (node_at cell.nodes j).row < (node_at cell.nodes k).row
IsInOrder cell along (ends.Node j) (ends.Port k) = Unit {0}
IsInOrder cell along (ends.Port j) high = Unit {0}

-- the wire is no wider than the pad of the node on which it ends; a port has none
abbrev pub IsWithinPad : Tech → Cell → Wire → WireEnd → Type 0
IsWithinPad tech cell wire (ends.Node k) = wire.width ≤ℤ node_pad tech wire.layer (node_at cell.nodes k).kind
IsWithinPad tech cell wire (ends.Port k) = Unit {0}

-- a wire at a buried contact is no narrower than its pad
abbrev pub FillsKind : Tech → ℤ → NodeKind → Type 0
FillsKind tech width (Joint layer own) = Unit {0}
FillsKind tech width (Contact lower) = Unit {0}
FillsKind tech width Buried = buried_pad tech ≤ℤ width
FillsKind tech width (Fet depletion gate w l) = Unit {0}

abbrev pub FillsPad : Tech → Cell → Wire → WireEnd → Type 0
FillsPad tech cell wire (ends.Node k) = FillsKind tech wire.width (node_at cell.nodes k).kind
FillsPad tech cell wire (ends.Port k) = Unit {0}

pub record IsWire (tech : Tech) (cell : Cell) (wire : Wire) : Type 0 where
  pub low : IsEnd cell wire.low
  pub high : IsEnd cell wire.high
  pub takes_low : Takes cell wire.layer wire.along wire.low
  pub takes_high : Takes cell wire.layer wire.along wire.high
  pub low_side : IsOnLowSide cell wire.low
  pub high_side : IsOnHighSide cell wire.high
  pub straight : line_at cell wire.along wire.low ≡ line_at cell wire.along wire.high
  pub ordered : IsInOrder cell wire.along wire.low wire.high
  pub size : IsSize wire.width
  pub wide : width_of tech wire.layer ≤ℤ wire.width
  pub low_pad : IsWithinPad tech cell wire wire.low
  pub high_pad : IsWithinPad tech cell wire wire.high
  pub low_filled : FillsPad tech cell wire wire.low
  pub high_filled : FillsPad tech cell wire wire.high

-- wire k of some, where there are so many
abbrev pub no_wire : Wire
no_wire = record { layer = Metal; width = pos 0; low = ends.Node 0; high = ends.Node 0; along = Across }

abbrev pub wire_at : List Wire → ℕ → Wire
wire_at wires k = slice_index_or wires k no_wire

-- the end is a buried contact
abbrev pub IsBuriedEnd : Cell → WireEnd → Type 0
IsBuriedEnd cell (ends.Node k) = (node_at cell.nodes k).kind ≡ Buried
IsBuriedEnd cell (ends.Port k) = ⊥

-- two wires leave one buried contact on the same side: they run along one axis, and it is the low end of both, or the
-- high end of both
abbrev pub LeaveOneSide : Cell → Wire → Wire → Type 0
LeaveOneSide cell a b = (a.along ≡ b.along)
    × (((a.low ≡ b.low) × IsBuriedEnd cell a.low) ⊎ ((a.high ≡ b.high) × IsBuriedEnd cell a.high))

-- an end of the wire is this one
abbrev pub EndsAt : WireEnd → Wire → Type 0
EndsAt end wire = (wire.low ≡ end) ⊎ (wire.high ≡ end)

-- port k lies near, and one wire ends at it, no other
pub record IsPort (cell : Cell) (k : ℕ) (port : Port) : Type 0 where
  pub place : port.place ≤ 4095
  pub wire : port.wire < length cell.wires
  pub wired : EndsAt (ends.Port k) (wire_at cell.wires port.wire)
  pub only : (j : ℕ) → j < length cell.wires → EndsAt (ends.Port k) (wire_at cell.wires j) → j ≡ port.wire

pub record IsLimit (cell : Cell) (limit : Limit) : Type 0 where
  pub a : limit.a < length cell.nodes
  pub b : limit.b < length cell.nodes
  pub apart : limit.a ≡ limit.b → ⊥
  pub number : IsNumber limit.n

pub record IsSound (tech : Tech) (cell : Cell) : Type 0 where
  pub nodes : AllByRecursion (IsNode tech) cell.nodes
  pub wires : AllByRecursion (IsWire tech cell) cell.wires
  -- no poly wire leaves a buried contact where a diffusion wire does
  pub sides : (j k : ℕ) → j < length cell.wires → k < length cell.wires
      → LeaveOneSide cell (wire_at cell.wires j) (wire_at cell.wires k)
      → (wire_at cell.wires j).layer ≡ (wire_at cell.wires k).layer
  pub ports : (k : ℕ) → k < length cell.ports → IsPort cell k (port_at cell.ports k)
  pub limits : AllByRecursion (IsLimit cell) cell.limits

-- a cell that may be inlined has few parts
abbrev pub IsLight : Cell → Type 0
IsLight cell = length cell.nodes + length cell.wires + length cell.limits ≤ 65536
