-- A wire touches the part of the node that it joins.
use Rattle.std.proofs.Common.{◌≡◌, ℕ, ◌<◌, ℤ, pos, ◌+ℤ◌, ◌-ℤ◌, ◌≤ℤ◌, ◌<ℤ◌, true, false, Bool, List, [], ◌∷◌, ◌++◌}
use Rattle.std.proofs.{Common.{length, refl, sym, ap, subst, arith}, lemmas.{Bool.cond-true, Int.{ints, clamps}}}
use Rattle.std.proofs.lemmas.List.Elements.{All-contains, Contains-append_left, Contains-append_right}
use Rattle.std.specs.{Prelude.neg_ℤ, List.{Contains, range_with_len}}
use Rattle.lam_geom.specs.{declared.boxes.Axis.{Axis, TheVariants.{X, Y}}, Gaps.gap_between}
use Rattle.rule_table.specs.declared.{technology.Tech.Tech, classes.Class.Class}
use Rattle.cons_graph.specs.{declared.edges.Edge.Edge, Solutions.Meets}
use Rattle.sym_items.specs.declared.items.{Coords.Coords, Item.Item}
use Rattle.sym_items.specs.{Extents.IsLongUnder, Sides.gap_of_sides, Transposed.item_along, Values.end_under}
use Rattle.cell_model.specs.declared.cell.{Axis2.{Axis2, TheVariants.{Across, Up}}, Cell.Cell, Wire.Wire}
use Rattle.cell_model.specs.{declared.cell.{WireEnd.WireEnd, Nets.Nets}, Sound.{node_at, wire_at, IsEnd, Takes}}
use Rattle.cell_model.specs.{Sound.{IsWithinPad, IsWire}, Wiring.{is_same_axis, node_pad}}
use Rattle.cell_model.specs.declared.cell.WireEnd.TheVariants as ends
use Rattle.pair_rules.specs.Bound.{item_at}
use Rattle.expand.specs.{declared.master.Master.Master, Masters.IsMaster, Laws.MeetsStructure, NodeItems.item_running}
use Rattle.expand.specs.{Items.{nets_at, items_of_node}, Structure.{tied, end_edges, overlap_edges, size_edge}}
use Rattle.expand.specs.{Structure.{extents_of, overlaps_of, margins_of, limits_of, structure_of}, Variables.half}
use Rattle.expand.specs.{Variables.{centre, cross_of, crossing}, WireItems.{reach, low_end_of, high_end_of}}
use Rattle.expand.proofs.{Cells.{node_sound, wire_sound}, Standing.stands}
use Rattle.buried_contacts.{specs.Contacts.axis_along, proofs.Owners.{run_of, wire_box}}
use Rattle.plan_model.specs.{declared.plan.Plan.Plan, Instances.InstancePlace}
use Rattle.instance_laws.{specs.Rules.sides_at_spot, proofs.{AtPorts.{lies_along, low_side, high_side}, Gaps.gap_at}}
use Rattle.instance_laws.proofs.{InCell.{low_in, high_in}, Lists.{in_flat_map, in_range}, OnBorder.{runs_along, other}}
use Rattle.instance_laws.proofs.{OnBorder.{LiesAsRun, wire_end, box_among}, ChainConductors.{class_on, class_has}}
use Rattle.instance_laws.proofs.ChainEnds.{MeetsEnd, IsMet, EndsAtKind, met_by}

-- ---- gaps

-- boxes that do not lie apart on either axis touch, and where they overlap on both they overlap
pub touches : (axis : Axis) (tech : Tech) (plan : Plan) (layouts : List Coords) (p q : InstancePlace) (a b : Item)
    → gap_at axis tech plan layouts p a q b ≤ℤ pos 0 → gap_at (other axis) tech plan layouts p a q b ≤ℤ pos 0
    → gap_of_sides (sides_at_spot tech plan layouts p a) (sides_at_spot tech plan layouts q b) ≤ℤ pos 0
touches X tech plan layouts p q a b h k = omega (arith, ints, clamps, h, k)
touches Y tech plan layouts p q a b h k = omega (arith, ints, clamps, h, k)

pub overlaps : (axis : Axis) (tech : Tech) (plan : Plan) (layouts : List Coords) (p q : InstancePlace) (a b : Item)
    → gap_at axis tech plan layouts p a q b <ℤ pos 0 → gap_at (other axis) tech plan layouts p a q b <ℤ pos 0
    → gap_of_sides (sides_at_spot tech plan layouts p a) (sides_at_spot tech plan layouts q b) <ℤ pos 0
overlaps X tech plan layouts p q a b h k = omega (arith, ints, clamps, h, k)
overlaps Y tech plan layouts p q a b h k = omega (arith, ints, clamps, h, k)

-- two spans that reach one another, at the same distance from the origin
pub spans_touch : (o a b c d : ℤ) → a ≤ℤ d → c ≤ℤ b → gap_between (o +ℤ a) (o +ℤ b) (o +ℤ c) (o +ℤ d) ≤ℤ pos 0
spans_touch o a b c d h k = omega (arith, ints, clamps, h, k)

-- ---- the end of a wire at a node

record EndIsSound (tech : Tech) (cell : Cell) (wire : Wire) (end : WireEnd) : Type 0 where
  own : IsEnd cell end
  takes : Takes cell wire.layer wire.along end
  within : IsWithinPad tech cell wire end

end_sound : (tech : Tech) (cell : Cell) (wire : Wire) (is_low : Bool) → IsWire tech cell wire
    → EndIsSound tech cell wire (wire_end is_low wire)
end_sound tech cell wire true h = record { own = h.low; takes = h.takes_low; within = h.low_pad }
end_sound tech cell wire false h = record { own = h.high; takes = h.takes_high; within = h.high_pad }

pub end_among : (tech : Tech) (cell : Cell) (wire : Wire) (is_low : Bool) (k : ℕ) → IsWire tech cell wire
    → wire_end is_low wire ≡ ends.Node k → k < length cell.nodes
end_among tech cell wire is_low k h e = (subst (EndIsSound tech cell wire) e (end_sound tech cell wire is_low h)).own

ends_at_kind : (tech : Tech) (master : Master) (wire : Wire) (is_low : Bool) (k : ℕ) → IsMaster tech master
    → IsWire tech master.cell wire → wire_end is_low wire ≡ ends.Node k
    → EndsAtKind tech (node_at master.cell.nodes k).kind wire.layer wire.along wire.width
ends_at_kind tech master wire is_low k m h e =
    let own : EndIsSound tech master.cell wire (ends.Node k) =
    subst (EndIsSound tech master.cell wire) e (end_sound tech master.cell wire is_low h) in
    let takes = own.takes in
    record {
      sound = (node_sound tech master.cell k m.sound own.own).kind;
      takes = takes.0;
      takes_along = takes.1;
      size = h.size;
      fits = own.within;
    }

-- the item of node k that wire w meets with an end
pub item_met : (tech : Tech) (master : Master) (nets : Nets) (w : ℕ) (is_low : Bool) (k : ℕ) → IsMaster tech master
    → w < length master.cell.wires → wire_end is_low (wire_at master.cell.wires w) ≡ ends.Node k
    → IsMet tech k (node_at master.cell.nodes k).kind (nets_at nets.node k) (wire_at master.cell.wires w).layer
    (wire_at master.cell.wires w).along (wire_at master.cell.wires w).width is_low
item_met tech master nets w is_low k m lt e =
    let wire : Wire = wire_at master.cell.wires w in
    met_by tech k (nets_at nets.node k) wire.along wire.width is_low (node_at master.cell.nodes k).kind wire.layer
    (ends_at_kind tech master wire is_low k m (wire_sound tech master.cell w m.sound lt) e)

-- ---- along the wire

run_along : (along : Axis2) → along ≡ runs_along (axis_along along)
run_along Across = refl
run_along Up = refl

run_least : (along : Axis2) (run : Item) (c : Class)
    → (let i : Item = record (item_running along run) { class = c } in (item_along (axis_along along) i).least_x
    ≡ run.least_x)
run_least Across run c = refl
run_least Up run c = refl

-- where a wire has its end
abbrev EndIsAt : Bool → ℤ → ℤ → ℤ → ℤ → Type 0
EndIsAt true low high centre reach = low ≡ (centre +ℤ neg_ℤ reach)
EndIsAt false low high centre reach = high ≡ (centre +ℤ reach)

along_touch : (is_low : Bool) (o low high centre reach width left right : ℤ) → EndIsAt is_low low high centre reach
    → (low +ℤ width) ≤ℤ high → MeetsEnd is_low left right reach width
    → gap_between (o +ℤ low) (o +ℤ high) (o +ℤ (centre +ℤ left)) (o +ℤ (centre +ℤ right)) ≤ℤ pos 0
along_touch true o low high centre reach width left right at long meets =
    let a = meets.0 in
    let b = meets.1 in
    spans_touch o low high (centre +ℤ left) (centre +ℤ right) (omega (arith, ints, at, a))
    (omega (arith, ints, at, long, b))
along_touch false o low high centre reach width left right at long meets =
    let a = meets.0 in
    let b = meets.1 in
    spans_touch o low high (centre +ℤ left) (centre +ℤ right) (omega (arith, ints, at, long, b))
    (omega (arith, ints, at, a))

end_is_at : (tech : Tech) (cell : Cell) (nets : Nets) (w : ℕ) (is_low : Bool) (k : ℕ) (x : ℕ → ℤ)
    → wire_end is_low (wire_at cell.wires w) ≡ ends.Node k
    → (let wire : Wire = wire_at cell.wires w in let run : Item = run_of tech cell nets w in
    EndIsAt is_low (end_under x run.xl) (end_under x run.xh) (x (centre k))
    (reach tech (node_at cell.nodes k).kind wire.width wire.along))
end_is_at tech cell nets w true k x e =
    ap (λ (end : WireEnd). end_under x (low_end_of tech cell (wire_at cell.wires w) end)) e
end_is_at tech cell nets w false k x e =
    ap (λ (end : WireEnd). end_under x (high_end_of tech cell (wire_at cell.wires w) end)) e

-- ---- across the wire

run_crosses : (along : Axis2) → is_same_axis along (crossing (other (axis_along along))) ≡ true
run_crosses Across = refl
run_crosses Up = refl

-- an inequality of a wire on the pad of its node is one of the structure
in_structure : (axis : Axis) (tech : Tech) (cell : Cell) (items : List Item) (w : ℕ) (e : Edge)
    → w < length cell.wires → Contains (overlap_edges axis tech cell w) e
    → Contains (structure_of axis tech cell items) e
unfolding structure_of
in_structure axis tech cell items w e lt h =
    let rest : List Edge = margins_of axis tech items ++ limits_of axis cell in
    Contains-append_right (size_edge tech ∷ extents_of axis items) (overlaps_of axis tech cell ++ rest) e
    (Contains-append_left (overlaps_of axis tech cell) rest e
    (in_flat_map (overlap_edges axis tech cell) (range_with_len 0 (length cell.wires)) w e
    (in_range (length cell.wires) w lt) h))

in_overlap : (axis : Axis) (tech : Tech) (cell : Cell) (w : ℕ) (is_low : Bool) (e : Edge)
    → is_same_axis (wire_at cell.wires w).along (crossing axis) ≡ true
    → Contains (end_edges tech cell (wire_at cell.wires w) (cross_of cell w) (wire_end is_low (wire_at cell.wires w)))
    e → Contains (overlap_edges axis tech cell w) e
in_overlap axis tech cell w is_low e crosses h =
    let wire : Wire = wire_at cell.wires w in
    let cross : ℕ = cross_of cell w in
    let both : List Edge = end_edges tech cell wire cross wire.low ++ end_edges tech cell wire cross wire.high in
    subst (λ (l : List Edge). Contains l e)
    (sym (cond-true (is_same_axis wire.along (crossing axis)) both [] crosses)) (by is_low h)
  where
    by : (is_low : Bool)
        → Contains
        (end_edges tech cell (wire_at cell.wires w) (cross_of cell w) (wire_end is_low (wire_at cell.wires w))) e
        → Contains (end_edges tech cell (wire_at cell.wires w) (cross_of cell w) (wire_at cell.wires w).low
        ++ end_edges tech cell (wire_at cell.wires w) (cross_of cell w) (wire_at cell.wires w).high) e
    by true h =
        Contains-append_left (end_edges tech cell (wire_at cell.wires w) (cross_of cell w) (wire_at cell.wires w).low)
        (end_edges tech cell (wire_at cell.wires w) (cross_of cell w) (wire_at cell.wires w).high) e h
    by false h =
        Contains-append_right
        (end_edges tech cell (wire_at cell.wires w) (cross_of cell w) (wire_at cell.wires w).low)
        (end_edges tech cell (wire_at cell.wires w) (cross_of cell w) (wire_at cell.wires w).high) e h

-- a wire leaves the centre of its node by no more than the slack
record IsTied (slack cross centre : ℤ) : Type 0 where
  up : neg_ℤ slack ≤ℤ (cross -ℤ centre)
  down : neg_ℤ slack ≤ℤ (centre -ℤ cross)

tied_there : (axis : Axis) (tech : Tech) (master : Master) (w : ℕ) (is_low : Bool) (k : ℕ) (y : ℕ → ℤ)
    → MeetsStructure axis tech master y → w < length master.cell.wires
    → is_same_axis (wire_at master.cell.wires w).along (crossing axis) ≡ true
    → wire_end is_low (wire_at master.cell.wires w) ≡ ends.Node k
    → (let wire : Wire = wire_at master.cell.wires w in
    IsTied (half (node_pad tech wire.layer (node_at master.cell.nodes k).kind -ℤ wire.width))
    (y (cross_of master.cell w)) (y (centre k)))
tied_there axis tech master w is_low k y met lt crosses at =
    record { up = holds _ (0, omega arith, refl); down = holds _ (1, omega arith, refl) }
  where
    holds : (e : Edge)
        → Contains
        (tied (centre k) (cross_of master.cell w)
        (half (node_pad tech (wire_at master.cell.wires w).layer (node_at master.cell.nodes k).kind
        -ℤ (wire_at master.cell.wires w).width))) e → Meets y e
    holds e h =
        let cell : Cell = master.cell in
        let there : Contains
        (end_edges tech cell (wire_at cell.wires w) (cross_of cell w) (wire_end is_low (wire_at cell.wires w)))
        e =
        subst (λ (end : WireEnd). Contains (end_edges tech cell (wire_at cell.wires w) (cross_of cell w) end) e)
        (sym at) h in
        All-contains (Meets y) (structure_of axis tech cell master.items.list) e met.meets
        (in_structure axis tech cell master.items.list w e lt
        (in_overlap axis tech cell w is_low e crosses there))

across_touch : (o cross centre slack side half_width : ℤ) → IsTied slack cross centre → slack ≤ℤ (side +ℤ half_width)
    → gap_between (o +ℤ (cross +ℤ neg_ℤ half_width)) (o +ℤ (cross +ℤ half_width)) (o +ℤ (centre +ℤ neg_ℤ side))
    (o +ℤ (centre +ℤ side)) ≤ℤ pos 0
across_touch o cross centre slack side half_width tied fits =
    let up = tied.up in
    let down = tied.down in
    spans_touch o (cross +ℤ neg_ℤ half_width) (cross +ℤ half_width) (centre +ℤ neg_ℤ side) (centre +ℤ side)
    (omega (arith, ints, down, fits)) (omega (arith, ints, up, fits))

-- ---- a wire and the item that it meets

-- spans that touch, by other names of their ends
pub gap_like : (o r a b c d e f g h : ℤ) → a ≡ e → b ≡ f → c ≡ g → d ≡ h
    → gap_between (o +ℤ e) (o +ℤ f) (r +ℤ g) (r +ℤ h) ≤ℤ pos 0
    → gap_between (o +ℤ a) (o +ℤ b) (r +ℤ c) (r +ℤ d) ≤ℤ pos 0
gap_like o r a b c d e f g h ae bf cg dh le = omega (arith, ints, clamps, ae, bf, cg, dh, le)

module _ (tech : Tech) (master : Master) (m : IsMaster tech master) (w : ℕ) (is_low : Bool) (k : ℕ)
    (lt : w < length master.cell.wires) (e : wire_end is_low (wire_at master.cell.wires w) ≡ ends.Node k) where
  abbrev wire : Wire
  wire = wire_at master.cell.wires w

  abbrev met : IsMet tech k (node_at master.cell.nodes k).kind (nets_at m.items.nets.node k) wire.layer wire.along
      wire.width is_low
  met = item_met tech master m.items.nets w is_low k m lt e

  abbrev run : Item
  run = run_of tech master.cell m.items.nets w

  -- the wire's box that conducts, and the node's
  abbrev of_wire : Item
  of_wire = wire_box tech master.cell m.items.nets w (class_on wire.layer)

  abbrev of_node : Item
  of_node = item_at (items_of_node tech master.cell m.items.nets k) met.r

  abbrev axis : Axis
  axis = axis_along wire.along

  lies : LiesAsRun axis wire.along of_wire run
  lies = lies_along axis wire.along run (class_on wire.layer) (run_along wire.along)

  pub along_meets : (o : ℤ) (x : ℕ → ℤ) → MeetsStructure axis tech master x
      → gap_between (o +ℤ low_in axis x of_wire) (o +ℤ high_in axis x of_wire) (o +ℤ low_in axis x of_node)
      (o +ℤ high_in axis x of_node) ≤ℤ pos 0
  along_meets o x structure =
      let among = box_among tech master w (class_on wire.layer) m lt (class_has wire.layer) in
      let long = All-contains (IsLongUnder axis x) master.items.list of_wire
      (stands axis tech master x m structure).long among in
      let low = ap (end_under x) lies.low in
      let high = ap (end_under x) lies.high in
      let least = run_least wire.along run (class_on wire.layer) in
      let left = ap (end_under x) met.lies.left_is in
      let right = ap (end_under x) met.lies.right_is in
      gap_like o o _ _ _ _ (end_under x run.xl) (end_under x run.xh) (x (centre k) +ℤ met.left)
      (x (centre k) +ℤ met.right) low high left right
      (along_touch is_low o (end_under x run.xl) (end_under x run.xh) (x (centre k))
      (reach tech (node_at master.cell.nodes k).kind wire.width wire.along) wire.width met.left met.right
      (end_is_at tech master.cell m.items.nets w is_low k x e) (omega (arith, ints, long, low, high, least)) met.meets)

  pub across_meets : (o : ℤ) (y : ℕ → ℤ) → MeetsStructure (other axis) tech master y
      → gap_between (o +ℤ low_in (other axis) y of_wire) (o +ℤ high_in (other axis) y of_wire)
      (o +ℤ low_in (other axis) y of_node) (o +ℤ high_in (other axis) y of_node) ≤ℤ pos 0
  across_meets o y structure =
      let low = low_side axis tech master.cell m.items.nets of_wire w y lies in
      let high = high_side axis tech master.cell m.items.nets of_wire w y lies in
      let bottom = ap (end_under y) met.lies.bottom_is in
      let top = ap (end_under y) met.lies.top_is in
      gap_like o o _ _ _ _ (y (cross_of master.cell w) +ℤ neg_ℤ (half wire.width))
      (y (cross_of master.cell w) +ℤ half wire.width) (y (centre k) +ℤ neg_ℤ met.side) (y (centre k) +ℤ met.side)
      low high bottom top
      (across_touch o (y (cross_of master.cell w)) (y (centre k))
      (half (node_pad tech wire.layer (node_at master.cell.nodes k).kind -ℤ wire.width)) met.side
      (half wire.width)
      (tied_there (other axis) tech master w is_low k y structure lt (run_crosses wire.along) e) met.slack)
