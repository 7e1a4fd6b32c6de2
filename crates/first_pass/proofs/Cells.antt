-- What a cell without its limits has in common with the cell.
use Rattle.std.proofs.Common.{◌≡◌, ℕ, ◌+◌, ◌≤◌, ℤ, pos, List, [], ◌∷◌, ◌++◌, length, map, append_assoc, refl, sym, ap}
use Rattle.std.{proofs.Common.{◌∙◌, arith, inl, inr, flat_map, if◌then◌else◌}, specs.List.range_with_len}
use Rattle.list_facts.proofs.Elements.{all_weaker}
use Rattle.lam_geom.specs.declared.boxes.Axis.{Axis, TheVariants.{X, Y}}
use Rattle.rule_table.specs.declared.{technology.Tech.Tech, classes.Layer.Layer}
use Rattle.cons_graph.specs.declared.edges.Edge.{Edge}
use Rattle.sym_items.specs.declared.items.{Item.Item, Items.Items, Coords.Coords}
use Rattle.cell_model.specs.declared.cell.{Axis2.{Axis2, TheVariants.{Across, Up}}, WireEnd.WireEnd, Node.Node}
use Rattle.cell_model.specs.{declared.cell.{Wire.Wire, Cell.Cell, Nets.Nets}, Wiring.is_same_axis, Sound.wire_at}
use Rattle.cell_model.specs.Sound.{IsEnd, Takes, IsOnLowSide, IsOnHighSide, line_at, IsInOrder, IsWithinPad, FillsPad}
use Rattle.cell_model.specs.Sound.{IsWire, IsBuriedEnd, LeaveOneSide, IsSound, IsLight}
use Rattle.cell_model.specs.declared.cell.WireEnd.TheVariants as ends
use Rattle.expand.specs.{declared.master.Master.Master, Masters.IsMaster, Variables.{cross_of, crossing, variables_of}}
use Rattle.expand.specs.{Items.{items_of_node, items_of_wire, item_list, AreItems}, NodeItems.{item_running, on_layer}}
use Rattle.expand.specs.{WireItems.{run_item, low_end_of, high_end_of, contact_at, wire_items}, Structure.end_edges}
use Rattle.expand.specs.Structure.{wire_edges, overlap_edges, overlaps_of, extents_of, margins_of, limits_of, size_edge}
use Rattle.expand.specs.Structure.{structure_of}
use Rattle.coarse_grid.specs.{Extent.{half_extent_of, pitch_of}, Start.{node_line, place, last_line, cross_places}}
use Rattle.coarse_grid.specs.Start.{start_values, start_of}
use Rattle.first_pass.specs.Bare.{bare_cell, bare}

-- ---- the ends of wires

end_kept : (cell : Cell) (end : WireEnd) → IsEnd cell end → IsEnd (bare_cell cell) end
end_kept cell (ends.Node k) h = h
end_kept cell (ends.Port k) h = h

takes_kept : (cell : Cell) (layer : Layer) (along : Axis2) (end : WireEnd) → Takes cell layer along end
    → Takes (bare_cell cell) layer along end
takes_kept cell layer along (ends.Node k) h = h
takes_kept cell layer along (ends.Port k) h = h

low_side_kept : (cell : Cell) (end : WireEnd) → IsOnLowSide cell end → IsOnLowSide (bare_cell cell) end
low_side_kept cell (ends.Node k) h = h
low_side_kept cell (ends.Port k) h = h

high_side_kept : (cell : Cell) (end : WireEnd) → IsOnHighSide cell end → IsOnHighSide (bare_cell cell) end
high_side_kept cell (ends.Node k) h = h
high_side_kept cell (ends.Port k) h = h

line_kept : (cell : Cell) (along : Axis2) (end : WireEnd) → line_at (bare_cell cell) along end ≡ line_at cell along end
line_kept cell Across (ends.Node k) = refl
line_kept cell Up (ends.Node k) = refl
line_kept cell Across (ends.Port k) = refl
line_kept cell Up (ends.Port k) = refl

order_kept : (cell : Cell) (along : Axis2) (low high : WireEnd) → IsInOrder cell along low high
    → IsInOrder (bare_cell cell) along low high
order_kept cell Across (ends.Node j) (ends.Node k) h = h
order_kept cell Up (ends.Node j) (ends.Node k) h = h
order_kept cell Across (ends.Node j) (ends.Port k) h = h
order_kept cell Up (ends.Node j) (ends.Port k) h = h
order_kept cell Across (ends.Port j) (ends.Node k) h = h
order_kept cell Up (ends.Port j) (ends.Node k) h = h
order_kept cell Across (ends.Port j) (ends.Port k) h = h
order_kept cell Up (ends.Port j) (ends.Port k) h = h

pad_kept : (tech : Tech) (cell : Cell) (wire : Wire) (end : WireEnd) → IsWithinPad tech cell wire end
    → IsWithinPad tech (bare_cell cell) wire end
pad_kept tech cell wire (ends.Node k) h = h
pad_kept tech cell wire (ends.Port k) h = h

fills_kept : (tech : Tech) (cell : Cell) (wire : Wire) (end : WireEnd) → FillsPad tech cell wire end
    → FillsPad tech (bare_cell cell) wire end
fills_kept tech cell wire (ends.Node k) h = h
fills_kept tech cell wire (ends.Port k) h = h

buried_kept : (cell : Cell) (end : WireEnd) → IsBuriedEnd (bare_cell cell) end → IsBuriedEnd cell end
buried_kept cell (ends.Node k) h = h
buried_kept cell (ends.Port k) h = h

-- ---- the checks

wire_kept : (tech : Tech) (cell : Cell) (wire : Wire) → IsWire tech cell wire → IsWire tech (bare_cell cell) wire
wire_kept tech cell wire h = record {
  low = end_kept cell wire.low h.low;
  high = end_kept cell wire.high h.high;
  takes_low = takes_kept cell wire.layer wire.along wire.low h.takes_low;
  takes_high = takes_kept cell wire.layer wire.along wire.high h.takes_high;
  low_side = low_side_kept cell wire.low h.low_side;
  high_side = high_side_kept cell wire.high h.high_side;
  straight = line_kept cell wire.along wire.low ∙ (h.straight ∙ sym (line_kept cell wire.along wire.high));
  ordered = order_kept cell wire.along wire.low wire.high h.ordered;
  size = h.size;
  wide = h.wide;
  low_pad = pad_kept tech cell wire wire.low h.low_pad;
  high_pad = pad_kept tech cell wire wire.high h.high_pad;
  low_filled = fills_kept tech cell wire wire.low h.low_filled;
  high_filled = fills_kept tech cell wire wire.high h.high_filled;
}

leave_kept : (cell : Cell) (a b : Wire) → LeaveOneSide (bare_cell cell) a b → LeaveOneSide cell a b
leave_kept cell a b (same, inl low) = (same, inl (low.0, buried_kept cell a.low low.1))
leave_kept cell a b (same, inr high) = (same, inr (high.0, buried_kept cell a.high high.1))

sound_kept : (tech : Tech) (cell : Cell) → IsSound tech cell → IsSound tech (bare_cell cell)
sound_kept tech cell s = record {
  nodes = s.nodes;
  wires = all_weaker (IsWire tech cell) (IsWire tech (bare_cell cell)) (wire_kept tech cell) cell.wires s.wires;
  sides = λ j k j_lt k_lt leave.
      s.sides j k j_lt k_lt (leave_kept cell (wire_at cell.wires j) (wire_at cell.wires k) leave);
  ports = λ k lt. let h = s.ports k lt in record { place = h.place; wire = h.wire; wired = h.wired; only = h.only };
  limits = tt;
}

light_kept : (cell : Cell) → IsLight cell → IsLight (bare_cell cell)
light_kept cell light =
    let l : length cell.nodes + length cell.wires + length cell.limits ≤ 65536 = light in
    omega arith

-- ---- items

-- the items of a wire, were these its ends
abbrev items_between : Tech → Cell → ℕ → ℕ → ℕ → Wire → WireEnd → WireEnd → List Item
items_between tech c owner net cross wire low high =
    on_layer wire.layer (item_running wire.along
    (run_item owner net cross wire.width (low_end_of tech c wire low) (high_end_of tech c wire high) (contact_at c low)
    (contact_at c high)))

ends_kept : (tech : Tech) (cell : Cell) (owner net cross : ℕ) (wire : Wire) (low high : WireEnd)
    → items_between tech (bare_cell cell) owner net cross wire low high ≡ items_between tech cell owner net cross wire
    low high
ends_kept tech cell owner net cross wire (ends.Node j) (ends.Node k) = refl
ends_kept tech cell owner net cross wire (ends.Node j) (ends.Port k) = refl
ends_kept tech cell owner net cross wire (ends.Port j) (ends.Node k) = refl
ends_kept tech cell owner net cross wire (ends.Port j) (ends.Port k) = refl

wire_items_kept : (tech : Tech) (cell : Cell) (owner net cross : ℕ) (wire : Wire)
    → wire_items tech (bare_cell cell) owner net cross wire ≡ wire_items tech cell owner net cross wire
wire_items_kept tech cell owner net cross wire = ends_kept tech cell owner net cross wire wire.low wire.high

items_of_wire_kept : (tech : Tech) (cell : Cell) (nets : Nets) (k : ℕ)
    → items_of_wire tech (bare_cell cell) nets k ≡ items_of_wire tech cell nets k
items_of_wire_kept tech cell nets k = wire_items_kept tech cell _ _ _ _

item_list_kept : (tech : Tech) (cell : Cell) (nets : Nets)
    → item_list tech (bare_cell cell) nets ≡ item_list tech cell nets
unfolding item_list
item_list_kept tech cell nets =
    let each : items_of_wire tech (bare_cell cell) nets ≡ items_of_wire tech cell nets =
    λ i. λ k. items_of_wire_kept tech cell nets k i in
    ap (λ (f : ℕ → List Item). flat_map (items_of_node tech cell nets) (range_with_len 0 (length cell.nodes))
    ++ flat_map f (range_with_len 0 (length cell.wires))) each

pub items_kept : (tech : Tech) (cell : Cell) (items : Items) → AreItems tech cell items
    → AreItems tech (bare_cell cell) items
items_kept tech cell items are =
    let n = are.of_cell in
    record {
      nets = are.nets;
      of_cell =
          record {
            numbers = n.numbers;
            netting = n.netting;
            in_order = n.in_order;
            nodes = n.nodes;
            wires = n.wires;
            count = n.count;
          };
      are = are.are
          ∙ ap (λ (l : List Item). record { list = l; x_vars = variables_of X cell; y_vars = variables_of Y cell })
          (sym (item_list_kept tech cell are.nets));
    }

pub master_kept : (tech : Tech) (master : Master) → IsMaster tech master → IsMaster tech (bare master)
master_kept tech master is = record {
  sound = sound_kept tech master.cell is.sound;
  light = light_kept master.cell is.light;
  items = items_kept tech master.cell master.items is.items;
}

-- ---- the start layout

cross_places_kept : (pitch : ℤ) (axis : Axis2) (cell : Cell) (wire : Wire)
    → cross_places pitch axis (bare_cell cell) wire ≡ cross_places pitch axis cell wire
cross_places_kept pitch axis cell wire =
    ap (λ (n : ℕ). if is_same_axis axis wire.along then [] else place pitch n ∷ []) (line_kept cell wire.along wire.low)

last_line_kept : (axis : Axis2) (cell : Cell) → last_line axis (bare_cell cell) ≡ last_line axis cell
unfolding last_line
last_line_kept axis cell = refl

pitch_kept : (tech : Tech) (cell : Cell) → pitch_of tech (bare_cell cell) ≡ pitch_of tech cell
unfolding pitch_of half_extent_of
pitch_kept tech cell = refl

values_kept : (pitch : ℤ) (axis : Axis2) (cell : Cell)
    → start_values pitch axis (bare_cell cell) ≡ start_values pitch axis cell
values_kept pitch axis cell =
    let V : ℕ → (Wire → List ℤ) → List ℤ =
    λ n f. pos 0 ∷ place pitch (n + 1) ∷
    (map (λ (node : Node). place pitch (node_line axis node)) cell.nodes ++ flat_map f cell.wires) in
    let crosses : cross_places pitch axis (bare_cell cell) ≡ cross_places pitch axis cell =
    λ i. λ wire. cross_places_kept pitch axis cell wire i in
    ap (λ (n : ℕ). V n (cross_places pitch axis (bare_cell cell))) (last_line_kept axis cell)
    ∙ ap (λ (f : Wire → List ℤ). V (last_line axis cell) f) crosses

pub start_kept : (tech : Tech) (cell : Cell) → start_of tech (bare_cell cell) ≡ start_of tech cell
start_kept tech cell =
    let bare_pitch : ℤ = pitch_of tech (bare_cell cell) in
    let C : List ℤ → List ℤ → Coords = λ xs ys. record { x = xs; y = ys } in
    ap (λ (xs : List ℤ). C xs (start_values bare_pitch Up (bare_cell cell))) (values_kept bare_pitch Across cell)
    ∙ (ap (λ (ys : List ℤ). C (start_values bare_pitch Across cell) ys) (values_kept bare_pitch Up cell)
    ∙ ap (λ (p : ℤ). C (start_values p Across cell) (start_values p Up cell)) (pitch_kept tech cell))

-- ---- the structure

end_edges_kept : (tech : Tech) (cell : Cell) (wire : Wire) (cross : ℕ) (end : WireEnd)
    → end_edges tech (bare_cell cell) wire cross end ≡ end_edges tech cell wire cross end
end_edges_kept tech cell wire cross (ends.Node j) = refl
end_edges_kept tech cell wire cross (ends.Port j) = refl

wire_edges_kept : (axis : Axis) (tech : Tech) (cell : Cell) (wire : Wire) (cross : ℕ)
    → wire_edges axis tech (bare_cell cell) wire cross ≡ wire_edges axis tech cell wire cross
wire_edges_kept axis tech cell wire cross =
    let W : List Edge → List Edge → List Edge = λ low high. if is_same_axis wire.along (crossing axis)
    then low ++ high else [] in
    ap (λ (es : List Edge). W es (end_edges tech (bare_cell cell) wire cross wire.high))
    (end_edges_kept tech cell wire cross wire.low)
    ∙ ap (λ (es : List Edge). W (end_edges tech cell wire cross wire.low) es)
    (end_edges_kept tech cell wire cross wire.high)

overlaps_kept : (axis : Axis) (tech : Tech) (cell : Cell)
    → overlaps_of axis tech (bare_cell cell) ≡ overlaps_of axis tech cell
overlaps_kept axis tech cell =
    let each : overlap_edges axis tech (bare_cell cell) ≡ overlap_edges axis tech cell =
    λ i. λ k. wire_edges_kept axis tech cell (wire_at cell.wires k) (cross_of cell k) i in
    ap (λ (f : ℕ → List Edge). flat_map f (range_with_len 0 (length cell.wires))) each

regrouped : (a b c d : List Edge) → a ++ (b ++ (c ++ d)) ≡ (a ++ (b ++ (c ++ []))) ++ d
regrouped a b c d = simp append_assoc

-- the structure of a cell is that of the cell without limits, and then its limits
pub structure_kept : (axis : Axis) (tech : Tech) (cell : Cell) (items : List Item)
    → structure_of axis tech cell items ≡ structure_of axis tech (bare_cell cell) items ++ limits_of axis cell
unfolding structure_of
structure_kept axis tech cell items =
    let extents = extents_of axis items in
    let margins = margins_of axis tech items in
    let limits = limits_of axis cell in
    ap (λ (es : List Edge). size_edge tech ∷ (extents ++ (es ++ (margins ++ limits))))
    (sym (overlaps_kept axis tech cell))
    ∙ ap (λ (es : List Edge). size_edge tech ∷ es)
    (regrouped extents (overlaps_of axis tech (bare_cell cell)) margins limits)
