-- The items of a wire span the lines from terminal to terminal along it, and lie on one line across it.
use Rattle.std.proofs.Common.{◌≡◌, ℕ, ◌+◌, ◌<◌, ◌≤◌, Bool, true, false, cond, ℤ, pos, neg_ℤ, ◌+ℤ◌, ◌≤ℤ◌, ◌<ℤ◌, List}
use Rattle.std.proofs.{Common.{length, refl, sym, ap, ◌∙◌, subst, inl, inr, arith}, lemmas.Int.ints}
use Rattle.std.specs.{Prelude.{◌^◌, ◌⊎◌}, List.AllByRecursion}
use Rattle.rule_table.{specs.{declared.technology.Tech.Tech, Technology.{numbers_of, widest_of}}, proofs.Sound.sound}
use Rattle.sym_items.specs.{declared.items.Item.Item, Values.{value_of, value_at}}
use Rattle.cell_model.specs.declared.cell.{Axis2.{Axis2, TheVariants.{Across, Up}}, NodeKind.NodeKind}
use Rattle.cell_model.specs.declared.cell.{NodeKind.TheVariants.{Joint, Contact, Buried, Fet}, Node.Node}
use Rattle.cell_model.specs.{declared.cell.{WireEnd.WireEnd, Wire.Wire, Cell.Cell}, Wiring.is_same_axis, Sound.IsKind}
use Rattle.cell_model.specs.Sound.{IsNode, IsWire, IsSound, IsEnd, IsInOrder, Takes, node_at, no_node, wire_at, line_at}
use Rattle.cell_model.specs.declared.cell.WireEnd.TheVariants as ends
use Rattle.list_facts.proofs.Elements.{all_at}
use Rattle.expand.specs.{Variables.{half, centre, past, cross_of}, NodeItems.item_running, WireItems.half_channel}
use Rattle.expand.specs.WireItems.{reach, low_end_of, high_end_of, contact_at, run_item, wire_items}
use Rattle.coarse_grid.specs.{Extent.reach_of, Near.AreLinesNear, Start.{node_line, last_line, start_values}}
use Rattle.coarse_grid.specs.Ranges.{Lines, only, low_line, high_line, wire_lines, lines_of}
use Rattle.coarse_grid.proofs.{Lines.last_near, Lookups.{centre_value, cross_value}, Reaches.{IsCoarse, coarse_pitch}}
use Rattle.coarse_grid.proofs.Grid.{grid_at, at_line, at_border, grid_high, IsNearGrid, IsSpan, near_of, low_in}
use Rattle.coarse_grid.proofs.{Grid.{high_in, in_order, round_span}, NodesLaid.limits, Laid.{IsSpanOn, IsLaid}}
use Rattle.coarse_grid.proofs.Laid.{laid_layers, node_within, port_within, lines_of_wire, wide}

-- how far past a node's centre a wire ends
abbrev IsOffset : ℤ → ℤ → Type 0
IsOffset extent z = (neg_ℤ extent ≤ℤ z) × (z ≤ℤ extent)

small : (extent z : ℤ) → pos 0 ≤ℤ z → z ≤ℤ extent → IsOffset extent z
small extent z low high = (omega (arith, ints), high)

opposite : (extent z : ℤ) → IsOffset extent z → IsOffset extent (neg_ℤ z)
opposite extent z h = let a : neg_ℤ extent ≤ℤ z = h.0 in let b : z ≤ℤ extent =
    h.1 in (omega (arith, ints), omega (arith, ints))

-- outside a channel, and within the transistor's poly or diffusion
outside : (extent a spacing extension : ℤ) → pos 0 ≤ℤ a → pos 0 ≤ℤ spacing → spacing <ℤ extension
    → (a +ℤ extension) ≤ℤ extent → IsOffset extent (neg_ℤ (a +ℤ spacing))
outside extent a spacing extension low spacing_low lt le = (omega (arith, ints), omega (arith, ints))

channel_near : (tech : Tech) (depletion : Bool) (gate along : Axis2) (w l extent : ℤ)
    → IsKind tech (Fet depletion gate w l) → reach_of tech (Fet depletion gate w l) ≤ℤ extent
    → IsOffset extent (neg_ℤ (half_channel gate w l along +ℤ (numbers_of tech).spacing_poly_diffusion))
channel_near tech depletion gate along w l extent h le =
    let n = sound tech.numbers tech.sound in
    let parts = limits tech depletion w l extent h.0 h.1 le in
    let spacing = n.in_range.spacing_poly_diffusion.0 in
    let P : ℤ → Type 0 = λ z. IsOffset extent (neg_ℤ (z +ℤ (numbers_of tech).spacing_poly_diffusion)) in
    elim (is_same_axis gate along) as (λ b. P (cond b (half w) (half l))) [
      | true ↦ outside extent (half w) _ _ parts.x_low spacing n.gate_reaches parts.poly
      | false ↦ outside extent (half l) _ _ parts.y_low spacing n.diffusion_reaches parts.diffusion
    ]

reach_near : (tech : Tech) (kind : NodeKind) (width extent : ℤ) (along : Axis2) → IsKind tech kind
    → reach_of tech kind ≤ℤ extent → pos 0 ≤ℤ half width → half width ≤ℤ extent
    → IsOffset extent (reach tech kind width along)
reach_near tech (Joint layer own) width extent along h le low high = small extent (half width) low high
reach_near tech (Contact lower) width extent along h le low high = small extent (half width) low high
reach_near tech Buried width extent along h le low high = small extent (half width) low high
reach_near tech (Fet depletion gate w l) width extent along h le low high =
    channel_near tech depletion gate along w l extent h le

-- all that is known of a wire of the cell
pub record IsFit (tech : Tech) (cell : Cell) (pitch extent : ℤ) (wire : Wire) : Type 0 where
  pub sound : IsSound tech cell
  pub near : AreLinesNear cell
  pub coarse : IsCoarse tech cell pitch extent
  pub is_wire : IsWire tech cell wire
  pub low : pos 0 ≤ℤ half wire.width
  pub high : half wire.width ≤ℤ extent

-- the number of the grid at which a wire begins, and at which it ends
abbrev low_number : Cell → Axis2 → WireEnd → ℕ
low_number cell along (ends.Node k) = node_line along (node_at cell.nodes k) + 1
low_number cell along (ends.Port k) = 0

abbrev high_number : Cell → Axis2 → WireEnd → ℕ
high_number cell along (ends.Node k) = node_line along (node_at cell.nodes k) + 1
high_number cell along (ends.Port k) = last_line along cell + 2

-- a border
border_near : (pitch extent : ℤ) (values : List ℤ) (n v : ℕ) → pos 0 ≤ℤ extent → value_of values v ≡ grid_at pitch n
    → v < length values → IsNearGrid pitch extent values n (past v (pos 0))
border_near pitch extent values n v low at lt =
    near_of pitch extent values n v (past v (pos 0)) at lt refl (omega (arith, ints)) low

two_more : (n : ℕ) → (n + 1) + 1 ≡ n + 2
two_more n = omega arith

far_at : (pitch : ℤ) (axis : Axis2) (cell : Cell)
    → value_of (start_values pitch axis cell) 1 ≡ grid_at pitch (last_line axis cell + 2)
far_at pitch axis cell = at_line pitch (last_line axis cell + 1) ∙ ap (grid_at pitch) (two_more (last_line axis cell))

node_near : (tech : Tech) (cell : Cell) (pitch extent : ℤ) (wire : Wire) (k : ℕ) (off : ℤ)
    → IsFit tech cell pitch extent wire → k < length cell.nodes → IsOffset extent off
    → IsNearGrid pitch extent (start_values pitch wire.along cell) (node_line wire.along (node_at cell.nodes k) + 1)
    (past (centre k) off)
node_near tech cell pitch extent wire k off f lt h =
    let value = centre_value pitch wire.along cell k lt in
    near_of pitch extent (start_values pitch wire.along cell) (node_line wire.along (node_at cell.nodes k) + 1)
    (centre k) (past (centre k) off)
    (value.0 ∙ at_line pitch (node_line wire.along (node_at cell.nodes k))) value.1 refl h.0 h.1

node_offset : (tech : Tech) (cell : Cell) (pitch extent : ℤ) (wire : Wire) (k : ℕ) → IsFit tech cell pitch extent wire
    → k < length cell.nodes
    → IsOffset extent (reach tech (node_at cell.nodes k).kind wire.width wire.along)
node_offset tech cell pitch extent wire k f lt =
    reach_near tech (node_at cell.nodes k).kind wire.width extent wire.along
    (all_at (IsNode tech) cell.nodes no_node k f.sound.nodes lt).kind
    (all_at (λ (node : Node). reach_of tech node.kind ≤ℤ extent) cell.nodes no_node k f.coarse.nodes lt) f.low f.high

low_near : (tech : Tech) (cell : Cell) (pitch extent : ℤ) (wire : Wire) (end : WireEnd)
    → IsFit tech cell pitch extent wire → IsEnd cell end
    → IsNearGrid pitch extent (start_values pitch wire.along cell) (low_number cell wire.along end)
    (low_end_of tech cell wire end)
low_near tech cell pitch extent wire (ends.Node k) f lt =
    node_near tech cell pitch extent wire k _ f lt
    (opposite extent _ (node_offset tech cell pitch extent wire k f lt))
low_near tech cell pitch extent wire (ends.Port k) f lt =
    border_near pitch extent (start_values pitch wire.along cell) 0 0 f.coarse.extent_low
    (at_border pitch (coarse_pitch tech cell pitch extent f.coarse)) (omega arith)

high_near : (tech : Tech) (cell : Cell) (pitch extent : ℤ) (wire : Wire) (end : WireEnd)
    → IsFit tech cell pitch extent wire → IsEnd cell end
    → IsNearGrid pitch extent (start_values pitch wire.along cell) (high_number cell wire.along end)
    (high_end_of tech cell wire end)
high_near tech cell pitch extent wire (ends.Node k) f lt =
    node_near tech cell pitch extent wire k _ f lt (node_offset tech cell pitch extent wire k f lt)
high_near tech cell pitch extent wire (ends.Port k) f lt =
    border_near pitch extent (start_values pitch wire.along cell) (last_line wire.along cell + 2) 1
    f.coarse.extent_low (far_at pitch wire.along cell) (omega arith)

low_inside : (tech : Tech) (cell : Cell) (pitch extent : ℤ) (wire : Wire) (end : WireEnd)
    → IsFit tech cell pitch extent wire → IsEnd cell end
    → pos 0 ≤ℤ value_at (low_end_of tech cell wire end) (start_values pitch wire.along cell)
low_inside tech cell pitch extent wire (ends.Node k) f lt =
    low_in pitch extent (widest_of tech) _ _ _ (wide tech cell pitch extent f.coarse) (omega arith)
    (low_near tech cell pitch extent wire (ends.Node k) f lt)
low_inside tech cell pitch extent wire (ends.Port k) f lt = omega (arith, ints)

far_inside : (pitch z : ℤ) (n : ℕ) → z ≡ grid_at pitch n → grid_at pitch n ≤ℤ pos (2 ^ 27)
    → (z +ℤ pos 0) ≤ℤ pos (2 ^ 27)
far_inside pitch z n e h = omega (arith, ints)

high_inside : (tech : Tech) (cell : Cell) (pitch extent : ℤ) (wire : Wire) (end : WireEnd)
    → IsFit tech cell pitch extent wire → IsEnd cell end
    → value_at (high_end_of tech cell wire end) (start_values pitch wire.along cell) ≤ℤ pos (2 ^ 27)
high_inside tech cell pitch extent wire (ends.Node k) f lt =
    let le = node_within wire.along cell k lt in
    let few = last_near wire.along cell f.near in
    high_in pitch extent (widest_of tech) _ _ _ (wide tech cell pitch extent f.coarse) (omega arith)
    (high_near tech cell pitch extent wire (ends.Node k) f lt)
high_inside tech cell pitch extent wire (ends.Port k) f lt =
    let few = last_near wire.along cell f.near in
    far_inside pitch _ (last_line wire.along cell + 2) (far_at pitch wire.along cell)
    (grid_high pitch (last_line wire.along cell + 2) (coarse_pitch tech cell pitch extent f.coarse) (omega arith))

begins : (cell : Cell) (along : Axis2) (end : WireEnd) → (low_number cell along end ≡ low_line along cell end + 1)
    ⊎ ((low_number cell along end ≡ 0) × (low_line along cell end ≡ 0))
begins cell along (ends.Node k) = inl refl
begins cell along (ends.Port k) = inr (refl, refl)

stops : (cell : Cell) (along : Axis2) (end : WireEnd) → (high_number cell along end ≡ high_line along cell end + 1)
    ⊎ ((high_number cell along end ≡ last_line along cell + 2) × (high_line along cell end ≡ last_line along cell))
stops cell along (ends.Node k) = inl refl
stops cell along (ends.Port k) = inr (refl, refl)

high_within : (cell : Cell) (along : Axis2) (end : WireEnd) → IsEnd cell end
    → high_line along cell end ≤ last_line along cell
high_within cell along (ends.Node k) lt = node_within along cell k lt
high_within cell along (ends.Port k) lt = omega arith

-- the low terminal comes before the high one
nodes_in_order : (cell : Cell) (along : Axis2) (j k : ℕ) → IsInOrder cell along (ends.Node j) (ends.Node k)
    → node_line along (node_at cell.nodes j) < node_line along (node_at cell.nodes k)
nodes_in_order cell Across j k h = h
nodes_in_order cell Up j k h = h

numbers_in_order : (cell : Cell) (along : Axis2) (low high : WireEnd) → IsEnd cell low → IsEnd cell high
    → IsInOrder cell along low high → low_number cell along low < high_number cell along high
numbers_in_order cell along (ends.Node j) (ends.Node k) lt lt2 h = let o =
    nodes_in_order cell along j k h in omega arith
numbers_in_order cell along (ends.Node j) (ends.Port k) lt lt2 h = let le = node_within along cell j lt in omega arith
numbers_in_order cell along (ends.Port j) (ends.Node k) lt lt2 h = omega arith
numbers_in_order cell along (ends.Port j) (ends.Port k) lt lt2 h = omega arith

lines_in_order : (cell : Cell) (along : Axis2) (low high : WireEnd) → IsEnd cell low → IsEnd cell high
    → IsInOrder cell along low high → low_line along cell low ≤ high_line along cell high
lines_in_order cell along (ends.Node j) (ends.Node k) lt lt2 h = let o = nodes_in_order cell along j k h in omega arith
lines_in_order cell along (ends.Node j) (ends.Port k) lt lt2 h = node_within along cell j lt
lines_in_order cell along (ends.Port j) high lt lt2 h = omega arith

-- along the wire
run_span : (tech : Tech) (cell : Cell) (pitch extent : ℤ) (wire : Wire) (lines : Lines)
    → IsFit tech cell pitch extent wire
    → lines ≡ record { first = low_line wire.along cell wire.low; last = high_line wire.along cell wire.high }
    → IsSpan pitch extent (start_values pitch wire.along cell) (last_line wire.along cell) lines
    (low_end_of tech cell wire wire.low) (high_end_of tech cell wire wire.high)
run_span tech cell pitch extent wire lines f e =
    let w = f.is_wire in
    let below = low_near tech cell pitch extent wire wire.low f w.low in
    let above = high_near tech cell pitch extent wire wire.high f w.high in
    let P : Lines → Type 0 = λ ls. IsSpan pitch extent (start_values pitch wire.along cell)
    (last_line wire.along cell) ls (low_end_of tech cell wire wire.low) (high_end_of tech cell wire wire.high) in
    subst P (sym e) (record {
      from = low_number cell wire.along wire.low;
      to = high_number cell wire.along wire.high;
      low_near = below;
      high_near = above;
      low_inside = low_inside tech cell pitch extent wire wire.low f w.low;
      high_inside = high_inside tech cell pitch extent wire wire.high f w.high;
      ordered = in_order pitch extent (widest_of tech) _ _ _ _ _ (wide tech cell pitch extent f.coarse)
          (numbers_in_order cell wire.along wire.low wire.high w.low w.high w.ordered) below above;
      begins = begins cell wire.along wire.low;
      stops = stops cell wire.along wire.high;
      proper = lines_in_order cell wire.along wire.low wire.high w.low w.high w.ordered;
      within = high_within cell wire.along wire.high w.high;
    })

-- the other axis
abbrev beside : Axis2 → Axis2
beside Across = Up
beside Up = Across

beside_differs : (along : Axis2) → is_same_axis (beside along) along ≡ false
beside_differs Across = refl
beside_differs Up = refl

same_axis : (along : Axis2) → is_same_axis along along ≡ true
same_axis Across = refl
same_axis Up = refl

port_beside : (along side : Axis2) → side ≡ along → is_same_axis (beside along) side ≡ false
port_beside along side e = ap (is_same_axis (beside along)) e ∙ beside_differs along

line_within : (cell : Cell) (wire : Wire) (along : Axis2) (end : WireEnd) → IsEnd cell end
    → Takes cell wire.layer along end → line_at cell along end ≤ last_line (beside along) cell
line_within cell wire Across (ends.Node k) lt takes = node_within Up cell k lt
line_within cell wire Up (ends.Node k) lt takes = node_within Across cell k lt
line_within cell wire Across (ends.Port k) lt takes = port_within Up cell k lt (port_beside Across _ takes.1)
line_within cell wire Up (ends.Port k) lt takes = port_within Across cell k lt (port_beside Up _ takes.1)

-- across the wire
cross_span : (tech : Tech) (cell : Cell) (pitch extent : ℤ) (k : ℕ) (lines : Lines)
    → IsFit tech cell pitch extent (wire_at cell.wires k) → k < length cell.wires
    → lines ≡ only (line_at cell (wire_at cell.wires k).along (wire_at cell.wires k).low)
    → IsSpan pitch extent (start_values pitch (beside (wire_at cell.wires k).along) cell)
    (last_line (beside (wire_at cell.wires k).along) cell) lines
    (past (cross_of cell k) (neg_ℤ (half (wire_at cell.wires k).width)))
    (past (cross_of cell k) (half (wire_at cell.wires k).width))
cross_span tech cell pitch extent k lines f lt e =
    let wire = wire_at cell.wires k in
    let axis = beside wire.along in
    let size = half wire.width in
    let low : pos 0 ≤ℤ size = f.low in
    let high : size ≤ℤ extent = f.high in
    let off = opposite extent size (small extent size low high) in
    let value = cross_value pitch axis cell k lt (beside_differs wire.along) in
    let P : Lines → Type 0 = λ ls. IsSpan pitch extent (start_values pitch axis cell) (last_line axis cell) ls
    (past (cross_of cell k) (neg_ℤ size)) (past (cross_of cell k) size) in
    subst P (sym e)
    (round_span pitch extent (widest_of tech) (start_values pitch axis cell) (last_line axis cell)
    (cross_of cell k) (line_at cell wire.along wire.low) _ _ (wide tech cell pitch extent f.coarse) value.0
    value.1
    (line_within cell wire wire.along wire.low f.is_wire.low f.is_wire.takes_low) (last_near axis cell f.near)
    (record { low_var = refl; high_var = refl; low_off = off.0; ordered = omega (arith, ints); high_off = high }))

running_laid : (cell : Cell) (pitch extent : ℤ) (along : Axis2) (item : Item)
    → IsSpanOn cell pitch extent item.owner along item.xl item.xh
    → IsSpanOn cell pitch extent item.owner (beside along) item.yl item.yh
    → IsLaid cell pitch extent (item_running along item)
running_laid cell pitch extent Across item run cross = record { x = run; y = cross }
running_laid cell pitch extent Up item run cross = record { x = cross; y = run }

lines_along : (cell : Cell) (wire : Wire)
    → wire_lines wire.along cell wire
    ≡ record { first = low_line wire.along cell wire.low; last = high_line wire.along cell wire.high }
lines_along cell wire = rw (same_axis wire.along) refl

lines_beside : (cell : Cell) (wire : Wire)
    → wire_lines (beside wire.along) cell wire ≡ only (line_at cell wire.along wire.low)
lines_beside cell wire = rw (beside_differs wire.along) refl

-- the items of wire k
pub wire_laid : (tech : Tech) (cell : Cell) (pitch extent : ℤ) (net k : ℕ)
    → IsFit tech cell pitch extent (wire_at cell.wires k) → k < length cell.wires
    → AllByRecursion (IsLaid cell pitch extent)
    (wire_items tech cell (length cell.nodes + k) net (cross_of cell k) (wire_at cell.wires k))
wire_laid tech cell pitch extent net k f lt =
    let wire = wire_at cell.wires k in
    let item = run_item (length cell.nodes + k) net (cross_of cell k) wire.width (low_end_of tech cell wire wire.low)
    (high_end_of tech cell wire wire.high) (contact_at cell wire.low) (contact_at cell wire.high) in
    laid_layers cell pitch extent wire.layer (item_running wire.along item)
    (running_laid cell pitch extent wire.along item
    (run_span tech cell pitch extent wire (lines_of wire.along cell (length cell.nodes + k)) f
    (lines_of_wire wire.along cell k ∙ lines_along cell wire))
    (cross_span tech cell pitch extent k (lines_of (beside wire.along) cell (length cell.nodes + k)) f lt
    (lines_of_wire (beside wire.along) cell k ∙ lines_beside cell wire)))
