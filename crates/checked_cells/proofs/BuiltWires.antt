-- Wires and limits end where they did where there is more, and in a copy; no wire of a copy ends at a port.
use Rattle.std.proofs.Common.{◌≡◌, ℕ, ◌+◌, ◌<◌, ◌≤◌, List, [], length, map, refl, sym, ap, subst, ◌∙◌, inl, inr, arith}
use Rattle.std.proofs.{lemmas.List.length-map, Math.ListN.get_or-map}
use Rattle.std.specs.{Prelude.{IsTrue, not, ◌≤ℤ◌}, List.AllByRecursion}
use Rattle.rule_table.specs.declared.{technology.Tech.Tech, classes.Layer.Layer}
use Rattle.lam_geom.specs.declared.boxes.Side.{Side}
use Rattle.cell_model.specs.declared.cell.{Axis2.{Axis2, TheVariants.{Across, Up}}, NodeKind.NodeKind, Node.Node}
use Rattle.cell_model.specs.declared.cell.{WireEnd.WireEnd, Wire.Wire, Port.Port, Limit.Limit, Cell.Cell}
use Rattle.cell_model.specs.Wiring.{axis_of, is_low_side, node_takes, node_takes_along, node_pad, is_same_layer}
use Rattle.cell_model.specs.Sound.{node_at, port_at, wire_at, no_wire, IsEnd, Takes, IsOnLowSide, IsOnHighSide, line_at}
use Rattle.cell_model.specs.Sound.{IsInOrder, IsWithinPad, FillsKind, FillsPad, IsWire, EndsAt, IsLimit}
use Rattle.cell_model.specs.declared.cell.WireEnd.TheVariants as ends
use Rattle.checked_cells.specs.CheckedCell.{CheckedCell, Plug, cell_of, no_plug, plug_at, copied_node, copied_end}
use Rattle.checked_cells.{specs.CheckedCell.{copied_wire, copied_limit}, proofs.BuiltNames.{MoreNodes, MorePlugs}}
use Rattle.list_facts.proofs.Elements.{all_map, all_weaker, all_at}

-- ---- ends that are seen in another cell

-- the order asks nothing where an end is a port
pub order_to_port : (cell : Cell) (along : Axis2) (j k : ℕ) → IsInOrder cell along (ends.Node j) (ends.Port k)
order_to_port cell Across j k = tt
order_to_port cell Up j k = tt

-- and so from a port
pub order_from_port : (cell : Cell) (along : Axis2) (j : ℕ) (high : WireEnd) → IsInOrder cell along (ends.Port j) high
order_from_port cell Across j (ends.Node k) = tt
order_from_port cell Across j (ends.Port k) = tt
order_from_port cell Up j (ends.Node k) = tt
order_from_port cell Up j (ends.Port k) = tt

-- an end of the old cell is this one of the new cell: the same node, shifted by columns and rows, or the same port,
-- not shifted
abbrev IsSeenAs : Cell → Cell → ℕ → ℕ → WireEnd → WireEnd → Type 0
IsSeenAs old new col row (ends.Node k) (ends.Node j) =
    (j < length new.nodes) × ((node_at new.nodes j).kind ≡ (node_at old.nodes k).kind)
    × ((node_at new.nodes j).col ≡ col + (node_at old.nodes k).col)
    × ((node_at new.nodes j).row ≡ row + (node_at old.nodes k).row)
IsSeenAs old new col row (ends.Port k) (ends.Port j) =
    (j < length new.ports) × ((port_at new.ports j).side ≡ (port_at old.ports k).side)
    × ((port_at new.ports j).layer ≡ (port_at old.ports k).layer)
    × ((port_at new.ports j).place ≡ (port_at old.ports k).place) × (col ≡ 0) × (row ≡ 0)
IsSeenAs old new col row end other = ⊥

within_seen : (old new : Cell) (col row : ℕ) (end to : WireEnd) → IsSeenAs old new col row end to → IsEnd new to
within_seen old new col row (ends.Node k) (ends.Node j) is = is.0
within_seen old new col row (ends.Port k) (ends.Port j) is = is.0
within_seen old new col row (ends.Node k) (ends.Port j) is = absurd is
within_seen old new col row (ends.Port k) (ends.Node j) is = absurd is

-- it takes the same wires
takes_seen : (old new : Cell) (col row : ℕ) (layer : Layer) (along : Axis2) (end to : WireEnd)
    → IsSeenAs old new col row end to → Takes old layer along end → Takes new layer along to
takes_seen old new col row layer along (ends.Node k) (ends.Node j) is takes =
    subst (λ (kind : NodeKind). IsTrue (node_takes kind layer) × IsTrue (node_takes_along kind layer along))
    (sym is.1) takes
takes_seen old new col row layer along (ends.Port k) (ends.Port j) is takes =
    (subst (λ (own : Layer). IsTrue (is_same_layer own layer)) (sym is.2) takes.0, ap axis_of is.1 ∙ takes.1)
takes_seen old new col row layer along (ends.Node k) (ends.Port j) is takes = absurd is
takes_seen old new col row layer along (ends.Port k) (ends.Node j) is takes = absurd is

-- it lies on the same side
low_seen : (old new : Cell) (col row : ℕ) (end to : WireEnd) → IsSeenAs old new col row end to → IsOnLowSide old end
    → IsOnLowSide new to
low_seen old new col row (ends.Node k) (ends.Node j) is low = tt
low_seen old new col row (ends.Port k) (ends.Port j) is low =
    subst (λ (side : Side). IsTrue (is_low_side side)) (sym is.1) low
low_seen old new col row (ends.Node k) (ends.Port j) is low = absurd is
low_seen old new col row (ends.Port k) (ends.Node j) is low = absurd is

high_seen : (old new : Cell) (col row : ℕ) (end to : WireEnd) → IsSeenAs old new col row end to → IsOnHighSide old end
    → IsOnHighSide new to
high_seen old new col row (ends.Node k) (ends.Node j) is high = tt
high_seen old new col row (ends.Port k) (ends.Port j) is high =
    subst (λ (side : Side). IsTrue (not (is_low_side side))) (sym is.1) high
high_seen old new col row (ends.Node k) (ends.Port j) is high = absurd is
high_seen old new col row (ends.Port k) (ends.Node j) is high = absurd is

-- how far lines along an axis are shifted
abbrev shift_of : Axis2 → ℕ → ℕ → ℕ
shift_of Across col row = row
shift_of Up col row = col

-- it lies on the shifted line
line_seen : (old new : Cell) (col row : ℕ) (along : Axis2) (end to : WireEnd) → IsSeenAs old new col row end to
    → line_at new along to ≡ shift_of along col row + line_at old along end
line_seen old new col row Across (ends.Node k) (ends.Node j) is = is.3
line_seen old new col row Up (ends.Node k) (ends.Node j) is = is.2
line_seen old new col row Across (ends.Port k) (ends.Port j) is = omega (arith, is.3, is.5)
line_seen old new col row Up (ends.Port k) (ends.Port j) is = omega (arith, is.3, is.4)
line_seen old new col row along (ends.Node k) (ends.Port j) is = absurd is
line_seen old new col row along (ends.Port k) (ends.Node j) is = absurd is

-- two ends are in the same order
order_seen : (old new : Cell) (col row : ℕ) (along : Axis2) (low from high to : WireEnd)
    → IsSeenAs old new col row low from → IsSeenAs old new col row high to → IsInOrder old along low high
    → IsInOrder new along from to
order_seen old new col row Across (ends.Node i) (ends.Node j) (ends.Node k) (ends.Node l) is it order =
    omega (arith, order, is.2, it.2)
order_seen old new col row Up (ends.Node i) (ends.Node j) (ends.Node k) (ends.Node l) is it order =
    omega (arith, order, is.3, it.3)
order_seen old new col row along (ends.Node i) (ends.Node j) (ends.Port k) (ends.Port l) is it order =
    order_to_port new along j l
order_seen old new col row along (ends.Node i) (ends.Node j) (ends.Node k) (ends.Port l) is it order = absurd it
order_seen old new col row along (ends.Node i) (ends.Node j) (ends.Port k) (ends.Node l) is it order = absurd it
order_seen old new col row along (ends.Port i) (ends.Port j) high to is it order = order_from_port new along j to
order_seen old new col row along (ends.Node i) (ends.Port j) high to is it order = absurd is
order_seen old new col row along (ends.Port i) (ends.Node j) high to is it order = absurd is

-- a wire is within the same pad
pad_seen : (tech : Tech) (old new : Cell) (col row : ℕ) (wire : Wire) (low high end to : WireEnd)
    → IsSeenAs old new col row end to → IsWithinPad tech old wire end
    → IsWithinPad tech new (record wire { low = low; high = high }) to
pad_seen tech old new col row wire low high (ends.Node k) (ends.Node j) is pad =
    subst (λ (kind : NodeKind). wire.width ≤ℤ node_pad tech wire.layer kind) (sym is.1) pad
pad_seen tech old new col row wire low high (ends.Port k) (ends.Port j) is pad = tt
pad_seen tech old new col row wire low high (ends.Node k) (ends.Port j) is pad = absurd is
pad_seen tech old new col row wire low high (ends.Port k) (ends.Node j) is pad = absurd is

-- and fills the same pad
filled_seen : (tech : Tech) (old new : Cell) (col row : ℕ) (wire : Wire) (low high end to : WireEnd)
    → IsSeenAs old new col row end to → FillsPad tech old wire end
    → FillsPad tech new (record wire { low = low; high = high }) to
filled_seen tech old new col row wire low high (ends.Node k) (ends.Node j) is filled =
    subst (FillsKind tech wire.width) (sym is.1) filled
filled_seen tech old new col row wire low high (ends.Port k) (ends.Port j) is filled = tt
filled_seen tech old new col row wire low high (ends.Node k) (ends.Port j) is filled = absurd is
filled_seen tech old new col row wire low high (ends.Port k) (ends.Node j) is filled = absurd is

-- a wire of the old cell is one of the new cell between the ends that its ends are seen as
wire_seen : (tech : Tech) (old new : Cell) (col row : ℕ) (wire : Wire) (low high : WireEnd)
    → IsSeenAs old new col row wire.low low → IsSeenAs old new col row wire.high high → IsWire tech old wire
    → IsWire tech new (record wire { low = low; high = high })
wire_seen tech old new col row wire low high from to is =
    record {
      low = within_seen old new col row wire.low low from;
      high = within_seen old new col row wire.high high to;
      takes_low = takes_seen old new col row wire.layer wire.along wire.low low from is.takes_low;
      takes_high = takes_seen old new col row wire.layer wire.along wire.high high to is.takes_high;
      low_side = low_seen old new col row wire.low low from is.low_side;
      high_side = high_seen old new col row wire.high high to is.high_side;
      straight = line_seen old new col row wire.along wire.low low from
          ∙ ap (λ (n : ℕ). shift_of wire.along col row + n) is.straight
          ∙ sym (line_seen old new col row wire.along wire.high high to);
      ordered = order_seen old new col row wire.along wire.low low wire.high high from to is.ordered;
      size = is.size;
      wide = is.wide;
      low_pad = pad_seen tech old new col row wire low high wire.low low from is.low_pad;
      high_pad = pad_seen tech old new col row wire low high wire.high high to is.high_pad;
      low_filled = filled_seen tech old new col row wire low high wire.low low from is.low_filled;
      high_filled = filled_seen tech old new col row wire low high wire.high high to is.high_filled;
    }

-- ---- a cell with more nodes and ports

-- the nodes and ports of the old cell, and maybe more after them
pub record MoreOf (old new : Cell) : Type 0 where
  pub nodes : MoreNodes old.nodes new.nodes
  pub long : length old.ports ≤ length new.ports
  pub side : (k : ℕ) → k < length old.ports → (port_at new.ports k).side ≡ (port_at old.ports k).side
  pub layer : (k : ℕ) → k < length old.ports → (port_at new.ports k).layer ≡ (port_at old.ports k).layer
  pub place : (k : ℕ) → k < length old.ports → (port_at new.ports k).place ≡ (port_at old.ports k).place

-- port k of a cell
pub port_of_plug : (plugs : List Plug) (k : ℕ) → port_at (map (λ plug. plug.port) plugs) k ≡ (plug_at plugs k).port
port_of_plug plugs k = get_or-map (λ (plug : Plug). plug.port) plugs k no_plug

-- a cell whose nodes and ports are those of another, and more
pub more_of : (old new : CheckedCell) → MoreNodes old.nodes new.nodes → MorePlugs old.plugs new.plugs
    → MoreOf (cell_of old) (cell_of new)
more_of old new nodes plugs =
    let fewer : (k : ℕ) → k < length (cell_of old).ports → k < length old.plugs =
    λ k lt. omega (arith, lt, length-map old.plugs (λ (plug : Plug). plug.port)) in
    record {
      nodes = nodes;
      long = omega (
        arith,
        plugs.long,
        length-map old.plugs (λ (plug : Plug). plug.port),
        length-map new.plugs
            (λ (plug : Plug). plug.port),
      );
      side = λ k lt. ap (λ (port : Port). port.side) (port_of_plug new.plugs k) ∙ plugs.side k (fewer k lt)
          ∙ sym (ap (λ (port : Port). port.side) (port_of_plug old.plugs k));
      layer = λ k lt. ap (λ (port : Port). port.layer) (port_of_plug new.plugs k) ∙ plugs.layer k (fewer k lt)
          ∙ sym (ap (λ (port : Port). port.layer) (port_of_plug old.plugs k));
      place = λ k lt. ap (λ (port : Port). port.place) (port_of_plug new.plugs k) ∙ plugs.place k (fewer k lt)
          ∙ sym (ap (λ (port : Port). port.place) (port_of_plug old.plugs k));
    }

-- an end stays what it is where there is more
seen_more : (old new : Cell) (end : WireEnd) → MoreOf old new → IsEnd old end → IsSeenAs old new 0 0 end end
seen_more old new (ends.Node k) more is =
    let same = more.nodes.same k is in (
      omega (arith, more.nodes.long, is),
      ap (λ (node : Node). node.kind)
          same,
      omega (arith, ap (λ (node : Node). node.col) same),
      omega (arith, ap (λ (node : Node). node.row) same),
    )
seen_more old new (ends.Port k) more is =
    (omega (arith, more.long, is), more.side k is, more.layer k is, more.place k is, refl, refl)

-- a wire of the old cell is one of the new cell
pub wire_kept : (tech : Tech) (old new : Cell) → MoreOf old new → (wire : Wire) → IsWire tech old wire
    → IsWire tech new wire
wire_kept tech old new more wire is =
    wire_seen tech old new 0 0 wire wire.low wire.high (seen_more old new wire.low more is.low)
    (seen_more old new wire.high more is.high) is

-- and so is a limit
pub limit_kept : (old new : Cell) → MoreOf old new → (limit : Limit) → IsLimit old limit → IsLimit new limit
limit_kept old new more limit is =
    record {
      a = omega (arith, more.nodes.long, is.a);
      b = omega (arith, more.nodes.long, is.b);
      apart = is.apart;
      number = is.number;
    }

-- ---- a copy

-- the new cell has the nodes of the used one, which has no ports, from the first on, shifted
pub record Holds (used new : Cell) (name : List ℕ) (first col row : ℕ) : Type 0 where
  pub closed : used.ports ≡ []
  pub within : first + length used.nodes ≤ length new.nodes
  pub node : (j : ℕ) → j < length used.nodes
      → node_at new.nodes (first + j) ≡ copied_node name col row (node_at used.nodes j)

-- there is no port
no_port {ℓ} : {X : Type ℓ} (used : Cell) (k : ℕ) → used.ports ≡ [] → k < length used.ports → X
no_port used k e lt = absurd (omega (arith, lt, ap {B = ℕ} (λ (ports : List Port). length ports) e))

-- an end is copied to one
seen_copied : (used new : Cell) (name : List ℕ) (first col row : ℕ) (end : WireEnd)
    → Holds used new name first col row → IsEnd used end → IsSeenAs used new col row end (copied_end first end)
seen_copied used new name first col row (ends.Node k) holds is =
    let same = holds.node k is in (
      omega (arith, holds.within, is),
      ap (λ (node : Node). node.kind) same,
      ap (λ (node : Node). node.col) same,
      ap
          (λ (node : Node). node.row) same,
    )
seen_copied used new name first col row (ends.Port k) holds is = no_port used k holds.closed is

-- a wire of the used cell is copied to one of the new cell
pub wire_copied : (tech : Tech) (used new : Cell) (name : List ℕ) (first col row : ℕ)
    → Holds used new name first col row → (wire : Wire) → IsWire tech used wire
    → IsWire tech new (copied_wire first wire)
wire_copied tech used new name first col row holds wire is =
    wire_seen tech used new col row wire (copied_end first wire.low) (copied_end first wire.high)
    (seen_copied used new name first col row wire.low holds is.low)
    (seen_copied used new name first col row wire.high holds is.high) is

-- and so is a limit
pub limit_copied : (used new : Cell) (name : List ℕ) (first col row : ℕ) → Holds used new name first col row
    → (limit : Limit) → IsLimit used limit → IsLimit new (copied_limit first limit)
limit_copied used new name first col row holds limit is =
    record {
      a = omega (arith, holds.within, is.a);
      b = omega (arith, holds.within, is.b);
      apart = λ e. is.apart (omega (arith, e));
      number = is.number;
    }

-- ---- ports at which no wire ends

-- no wire of these ends at port k
abbrev pub NoneEndsAt : List Wire → ℕ → Type 0
NoneEndsAt wires k = (j : ℕ) → j < length wires → EndsAt (ends.Port k) (wire_at wires j) → ⊥

-- an end that is port k says that there is one
port_within : (cell : Cell) (end : WireEnd) (k : ℕ) → end ≡ ends.Port k → IsEnd cell end → k < length cell.ports
port_within cell end k e is = subst (IsEnd cell) e is

-- a port at which a wire ends is there
port_of_end : (tech : Tech) (cell : Cell) (wire : Wire) (k : ℕ) → IsWire tech cell wire → EndsAt (ends.Port k) wire
    → k < length cell.ports
port_of_end tech cell wire k is (inl e) = port_within cell wire.low k e is.low
port_of_end tech cell wire k is (inr e) = port_within cell wire.high k e is.high

-- no wire ends at a port that is not there
pub none_past_ports : (tech : Tech) (cell : Cell) (k : ℕ) → AllByRecursion (IsWire tech cell) cell.wires
    → length cell.ports ≤ k → NoneEndsAt cell.wires k
none_past_ports tech cell k are past j lt at_end =
    omega (
      arith,
      past,
      port_of_end tech cell (wire_at cell.wires j) k
          (all_at (IsWire tech cell) cell.wires no_wire j are lt) at_end,
    )

-- a copied end is no port
copied_no_port : (used : Cell) (first k : ℕ) (end : WireEnd) → used.ports ≡ [] → IsEnd used end
    → copied_end first end ≡ ends.Port k → ⊥
copied_no_port used first k (ends.Node j) closed is e = cc
copied_no_port used first k (ends.Port j) closed is e = no_port used j closed is

-- a copied wire ends at no port
copied_wire_apart : (tech : Tech) (used : Cell) (first k : ℕ) (wire : Wire) → used.ports ≡ [] → IsWire tech used wire
    → EndsAt (ends.Port k) (copied_wire first wire) → ⊥
copied_wire_apart tech used first k wire closed is (inl e) = copied_no_port used first k wire.low closed is.low e
copied_wire_apart tech used first k wire closed is (inr e) = copied_no_port used first k wire.high closed is.high e

-- and so for each
pub none_of_copies : (tech : Tech) (used : Cell) (first k : ℕ) → used.ports ≡ []
    → AllByRecursion (IsWire tech used) used.wires → NoneEndsAt (map (copied_wire first) used.wires) k
none_of_copies tech used first k closed are j lt at_end =
    all_at (λ wire. EndsAt (ends.Port k) wire → ⊥) (map (copied_wire first) used.wires) no_wire j
    (all_map (λ wire. EndsAt (ends.Port k) wire → ⊥) (copied_wire first) used.wires
    (all_weaker (IsWire tech used) (λ wire. EndsAt (ends.Port k) (copied_wire first wire) → ⊥)
    (λ wire is. copied_wire_apart tech used first k wire closed is) used.wires are))
    lt at_end
