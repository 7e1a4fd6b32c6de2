-- Wires on the pads of buried contacts. All is said in a layout turned so that the wire runs across.
use Rattle.std.proofs.Common.{◌≡◌, ℕ, ◌<◌, ℤ, pos, ◌+ℤ◌, ◌-ℤ◌, ◌*ℤ◌, ◌≤ℤ◌, Bool, true, false, List, [], ◌++◌, length}
use Rattle.std.proofs.{Common.{get_or, refl, sym, ap, ◌∙◌, subst, arith, zero-add}, lemmas.{Bool.cond-true, Int.ints}}
use Rattle.std.proofs.lemmas.List.{FromFn.{length-range_with_len, get_or-range_with_len}, Elements.recursion_from_All}
use Rattle.std.specs.{Prelude.neg_ℤ, List.{AllByRecursion, All, range_with_len}}
use Rattle.lam_geom.specs.declared.boxes.Axis.{Axis, TheVariants.{X, Y}}
use Rattle.rule_table.specs.declared.{technology.Tech.Tech, classes.Class.Class}
use Rattle.cons_graph.specs.{declared.edges.Edge.Edge, Solutions.Meets}
use Rattle.sym_items.specs.declared.items.{End.End, Item.Item, Coords.Coords}
use Rattle.sym_items.specs.{Values.{value_of, value_at}, Sides.{Sides, sides_in}, Extents.IsLongUnder}
use Rattle.sym_items.specs.Transposed.{coords_along, values_along, sides_along}
use Rattle.cell_model.specs.declared.cell.{Axis2.{Axis2, TheVariants.{Across, Up}}, NodeKind.NodeKind}
use Rattle.cell_model.specs.declared.cell.{NodeKind.TheVariants.Buried, WireEnd.WireEnd, Wire.Wire, Cell.Cell}
use Rattle.cell_model.specs.{Wiring.{is_same_axis, buried_pad, node_pad}, Sound.{node_at, wire_at, IsWithinPad}}
use Rattle.cell_model.specs.Sound.{FillsKind, FillsPad}
use Rattle.cell_model.specs.declared.cell.WireEnd.TheVariants as ends
use Rattle.pair_rules.specs.Bound.{no_item}
use Rattle.list_facts.proofs.Elements.{all_at, all_parts, all_pieces}
use Rattle.expand.specs.{declared.master.Master.Master, Masters.IsMaster, Variables.{half, centre, cross_of, crossing}}
use Rattle.expand.specs.{Variables.past, NodeItems.item_running, WireItems.{reach, low_end_of, high_end_of}}
use Rattle.expand.specs.Structure.{tied, end_edges, overlap_edges, extents_of, overlaps_of, margins_of, limits_of}
use Rattle.expand.{specs.Structure.structure_of, proofs.{Among.buried_size, Cells.wire_sound, Standing.stands}}
use Rattle.buried_contacts.specs.Contacts.{IsFinished, item_of, sides_of_item, IsItem, IsBuried, square_at, pad_at}
use Rattle.buried_contacts.{specs.Contacts.{axis_along, CoversFrom, end_of_wire}, proofs.Owners.{run_of, IsBoxOfWire}}

-- ---- at the end of a wire

-- A wire ends at a buried contact, on whose pad it fits and which it fills: its width is the pad's.
same_width : (tech : Tech) (cell : Cell) (wire : Wire) (end : WireEnd) (k : ℕ) → end ≡ ends.Node k
    → (node_at cell.nodes k).kind ≡ Buried
    → IsWithinPad tech cell wire end → FillsPad tech cell wire end → wire.width ≡ buried_pad tech
same_width tech cell wire end k e is within fills =
    let W : NodeKind → Type 0 = λ kind. wire.width ≤ℤ node_pad tech wire.layer kind in
    let high : wire.width ≤ℤ buried_pad tech = subst W is (subst (IsWithinPad tech cell wire) e within) in
    let low : buried_pad tech ≤ℤ wire.width =
    subst (FillsKind tech wire.width) is (subst (FillsPad tech cell wire) e fills) in
    omega (arith, ints, high, low)

-- it ends half its width past the centre
low_end : (tech : Tech) (cell : Cell) (wire : Wire) (end : WireEnd) (k : ℕ) → end ≡ ends.Node k
    → (node_at cell.nodes k).kind ≡ Buried → low_end_of tech cell wire end ≡ past (centre k) (neg_ℤ (half wire.width))
low_end tech cell wire end k e is = ap (low_end_of tech cell wire) e
    ∙ ap (λ (kind : NodeKind). past (centre k) (neg_ℤ (reach tech kind wire.width wire.along))) is

high_end : (tech : Tech) (cell : Cell) (wire : Wire) (end : WireEnd) (k : ℕ) → end ≡ ends.Node k
    → (node_at cell.nodes k).kind ≡ Buried → high_end_of tech cell wire end ≡ past (centre k) (half wire.width)
high_end tech cell wire end k e is = ap (high_end_of tech cell wire) e
    ∙ ap (λ (kind : NodeKind). past (centre k) (reach tech kind wire.width wire.along)) is

-- ---- across a wire

-- two variables that differ by no more than nothing are one
tied_is : (x : ℕ → ℤ) (a b : ℕ) (slack : ℤ) → slack ≡ pos 0 → AllByRecursion (Meets x) (tied a b slack) → x b ≡ x a
tied_is x a b slack e h =
    let up = h.0 in
    let down = h.1.0 in
    omega (arith, ints, e, up, down)

nothing_left : (a b : ℤ) → a ≡ b → half (b -ℤ a) ≡ pos 0
nothing_left a b e =
    let zero_left : (b -ℤ a) ≡ pos 0 = omega (arith, ints, e) in
    ap half zero_left

-- so the cross coordinate of a wire as wide as the pad is the centre's
end_tied : (tech : Tech) (cell : Cell) (wire : Wire) (x : ℕ → ℤ) (cross : ℕ) (end : WireEnd) (k : ℕ)
    → end ≡ ends.Node k → (node_at cell.nodes k).kind ≡ Buried → wire.width ≡ buried_pad tech
    → AllByRecursion (Meets x) (end_edges tech cell wire cross end) → x cross ≡ x (centre k)
end_tied tech cell wire x cross end k e is wide h =
    let A : List Edge → Type 0 = AllByRecursion (Meets x) in
    let there = subst (λ (z : WireEnd). A (end_edges tech cell wire cross z)) e h in
    let here =
    subst (λ (kind : NodeKind). A (tied (centre k) cross (half (node_pad tech wire.layer kind -ℤ wire.width)))) is
    there in
    tied_is x (centre k) cross (half (buried_pad tech -ℤ wire.width)) (nothing_left wire.width (buried_pad tech) wide)
    here

overlap_met : (axis : Axis) (tech : Tech) (cell : Cell) (items : List Item) (x : ℕ → ℤ) (w : ℕ)
    → All (Meets x) (structure_of axis tech cell items) → w < length cell.wires
    → AllByRecursion (Meets x) (overlap_edges axis tech cell w)
unfolding structure_of
overlap_met axis tech cell items x w meets lt =
    let E : Edge → Type 0 = Meets x in
    let overlaps = overlaps_of axis tech cell in
    let margins = margins_of axis tech items in
    let limits = limits_of axis cell in
    let numbers : List ℕ = range_with_len 0 (length cell.wires) in
    let all = recursion_from_All E (structure_of axis tech cell items) meets in
    let first = all_parts E (extents_of axis items) (overlaps ++ (margins ++ limits)) all.1 in
    let own = (all_parts E overlaps (margins ++ limits) first.1).0 in
    let pieces = all_pieces E (overlap_edges axis tech cell) numbers own in
    let there = all_at (λ n. AllByRecursion E (overlap_edges axis tech cell n)) numbers 0 w pieces
    (omega (arith, lt, length-range_with_len 0 (length cell.wires))) in
    let at : get_or numbers w 0 ≡ w = get_or-range_with_len 0 (length cell.wires) w 0 lt ∙ zero-add w in
    subst (λ n. AllByRecursion E (overlap_edges axis tech cell n)) at there

-- the axis across a run
abbrev across : Axis2 → Axis
across Across = Y
across Up = X

runs_across : (along : Axis2) → is_same_axis along (crossing (across along)) ≡ true
runs_across Across = refl
runs_across Up = refl

-- the values across a run are those of the turned layout
across_values : (along : Axis2) (layout : Coords)
    → values_along (across along) layout ≡ (coords_along (axis_along along) layout).y
across_values Across layout = refl
across_values Up layout = refl

-- ---- boxes and pads in the turned layout

run_turned : (along : Axis2) (layout : Coords) (run : Item) (c : Class)
    → sides_along (axis_along along) (sides_in layout (record (item_running along run) { class = c }))
    ≡ sides_in (coords_along (axis_along along) layout) run
run_turned Across layout run c = refl
run_turned Up layout run c = refl

pub square_turned : (axis : Axis) (layout : Coords) (k : ℕ) (z : ℤ)
    → sides_along axis (square_at layout k z) ≡ square_at (coords_along axis layout) k z
square_turned X layout k z = refl
square_turned Y layout k z = refl

run_long : (along : Axis2) (layout : Coords) (run : Item) (c : Class)
    → IsLongUnder (axis_along along) (value_of (values_along (axis_along along) layout))
    (record (item_running along run) { class = c })
    → (value_at run.xl (coords_along (axis_along along) layout).x +ℤ run.least_x) ≤ℤ value_at run.xh
    (coords_along (axis_along along) layout).x
run_long Across layout run c h = h
run_long Up layout run c h = h

-- a box ends so far past a centre
abbrev Reaches : Bool → ℤ → ℤ → ℤ → ℤ → Type 0
Reaches true left right x reach = left ≡ (x +ℤ neg_ℤ reach)
Reaches false left right x reach = right ≡ (x +ℤ reach)

-- a box with its end half the pad past the centre, as wide as the pad and as long as it is wide
covers : (is_low : Bool) (left right cross x y wide reach pad : ℤ) → (pos 2 *ℤ pad) ≡ wide → reach ≡ pad → cross ≡ y
    → (left +ℤ wide) ≤ℤ right
    → Reaches is_low left right x reach
    → CoversFrom is_low (record { left = left; right = right; bottom = cross +ℤ neg_ℤ reach; top = cross +ℤ reach })
    (record { left = x -ℤ pad; right = x +ℤ pad; bottom = y -ℤ pad; top = y +ℤ pad })
covers true left right cross x y wide reach pad even same at long ends = record {
  bottom = omega (arith, ints, same, at);
  top = omega (arith, ints, same, at);
  left = omega (arith, ints, same, ends);
  right = omega (arith, ints, same, ends, long, even);
  ends_with = omega (arith, ints, same, ends);
}
covers false left right cross x y wide reach pad even same at long ends = record {
  bottom = omega (arith, ints, same, at);
  top = omega (arith, ints, same, at);
  left = omega (arith, ints, same, ends, long, even);
  right = omega (arith, ints, same, ends);
  ends_with = omega (arith, ints, same, ends);
}

-- ---- wires on pads

-- What holds of wire w where an end of it is buried contact k, for the values along it and across it.
record IsOnPad (tech : Tech) (cell : Cell) (w k : ℕ) (is_low : Bool) (values : List ℤ) (x : ℕ → ℤ) : Type 0 where
  wide : (wire_at cell.wires w).width ≡ buried_pad tech
  across : x (cross_of cell w) ≡ x (centre k)
  reaches : Reaches is_low (value_at (low_end_of tech cell (wire_at cell.wires w) (wire_at cell.wires w).low) values)
      (value_at (high_end_of tech cell (wire_at cell.wires w) (wire_at cell.wires w).high) values)
      (value_of values (centre k)) (half (wire_at cell.wires w).width)

on_pad : (tech : Tech) (master : Master) (w k : ℕ) (is_low : Bool) (values : List ℤ) (x : ℕ → ℤ)
    → IsMaster tech master → w < length master.cell.wires → (node_at master.cell.nodes k).kind ≡ Buried
    → end_of_wire master w is_low ≡ ends.Node k
    → AllByRecursion (Meets x)
    (end_edges tech master.cell (wire_at master.cell.wires w) (cross_of master.cell w)
    (wire_at master.cell.wires w).low) × AllByRecursion (Meets x) (end_edges tech master.cell
    (wire_at master.cell.wires w) (cross_of master.cell w) (wire_at master.cell.wires w).high)
    → IsOnPad tech master.cell w k is_low values x
on_pad tech master w k true values x m lt is e met =
    let cell = master.cell in
    let wire = wire_at cell.wires w in
    let sound = wire_sound tech cell w m.sound lt in
    let wide = same_width tech cell wire wire.low k e is sound.low_pad sound.low_filled in
    record {
      wide = wide;
      across = end_tied tech cell wire x (cross_of cell w) wire.low k e is wide met.0;
      reaches = ap (λ (z : End). value_at z values) (low_end tech cell wire wire.low k e is);
    }
on_pad tech master w k false values x m lt is e met =
    let cell = master.cell in
    let wire = wire_at cell.wires w in
    let sound = wire_sound tech cell w m.sound lt in
    let wide = same_width tech cell wire wire.high k e is sound.high_pad sound.high_filled in
    record {
      wide = wide;
      across = end_tied tech cell wire x (cross_of cell w) wire.high k e is wide met.1;
      reaches = ap (λ (z : End). value_at z values) (high_end tech cell wire wire.high k e is);
    }

-- each box of a wire covers the pad of a buried contact at which it ends
pub wire_covers : (tech : Tech) (master : Master) (layout : Coords) (m : IsMaster tech master)
    → IsFinished tech master layout → (w k i : ℕ) (is_low : Bool) → IsBuried master k
    → end_of_wire master w is_low ≡ ends.Node k → IsItem master i
    → IsBoxOfWire tech master.cell m.items.nets (item_of master i) w
    → CoversFrom is_low (sides_along (axis_along (wire_at master.cell.wires w).along) (sides_of_item master layout i))
    (sides_along (axis_along (wire_at master.cell.wires w).along) (pad_at tech layout k))
wire_covers tech master layout m done w k i is_low buried e lt box =
    let cell = master.cell in
    let wire = wire_at cell.wires w in
    let along = wire.along in
    let axis = axis_along along in
    let turned = coords_along axis layout in
    let run = run_of tech cell m.items.nets w in
    let class = (item_of master i).class in
    let side = across along in
    let over = done.structure side in
    let met = overlap_met side tech cell master.items.list (value_of (values_along side layout)) w over.meets
    box.among in
    let A : List Edge → Type 0 = AllByRecursion (Meets (value_of (values_along side layout))) in
    let both = end_edges tech cell wire (cross_of cell w) wire.low
    ++ end_edges tech cell wire (cross_of cell w) wire.high in
    let own : A both = subst A (cond-true (is_same_axis along (crossing side)) both [] (runs_across along)) met in
    let parts = all_parts (Meets (value_of (values_along side layout)))
    (end_edges tech cell wire (cross_of cell w) wire.low) (end_edges tech cell wire (cross_of cell w) wire.high)
    own in
    let on = on_pad tech master w k is_low turned.x (value_of (values_along side layout)) m box.among buried.1 e
    parts in
    let cross : value_of turned.y (cross_of cell w) ≡ value_of turned.y (centre k) =
    subst (λ (values : List ℤ). value_of values (cross_of cell w) ≡ value_of values (centre k))
    (across_values along layout) on.across in
    let long = (stands axis tech master (value_of (values_along axis layout)) m (done.structure axis)).long i no_item
    lt in
    let run_is =
    run_long along layout run class
    (subst (IsLongUnder axis (value_of (values_along axis layout))) box.is long) in
    let even : (pos 2 *ℤ half (buried_pad tech)) ≡ wire.width = (buried_size tech).even ∙ sym on.wide in
    let covers_run = covers is_low (value_at run.xl turned.x) (value_at run.xh turned.x)
    (value_of turned.y (cross_of cell w)) (value_of turned.x (centre k)) (value_of turned.y (centre k))
    wire.width (half wire.width) (half (buried_pad tech)) even (ap half on.wide) cross run_is on.reaches in
    let sides : sides_along axis (sides_of_item master layout i) ≡ sides_in turned run =
    ap (λ (j : Item). sides_along axis (sides_in layout j)) box.is ∙ run_turned along layout run class in
    let pad : sides_along axis (pad_at tech layout k) ≡ square_at turned k (half (buried_pad tech)) =
    square_turned axis layout k (half (buried_pad tech)) in
    subst (λ (b : Sides). CoversFrom is_low b (sides_along axis (pad_at tech layout k))) (sym sides)
    (subst (CoversFrom is_low (sides_in turned run)) (sym pad) covers_run)
