-- Boxes of wires of one cell that end on one border of it.
use Rattle.std.proofs.Common.{◌≡◌, ◌≢◌, ℕ, ℤ, pos, ◌+ℤ◌, ◌≤ℤ◌, List, refl, sym, ap, ◌∙◌, subst, arith, inl, inr, ◌⊎◌}
use Rattle.std.proofs.lemmas.{Int.{ints, clamps}, List.get_or_default}
use Rattle.std.specs.{Prelude.{IfSome, IsTrue, slice_index, neg_ℤ}, List.Contains, Int.int_max}
use Rattle.lam_geom.specs.{declared.boxes.Axis.{Axis, TheVariants.{X, Y}}, Gaps.gap_between}
use Rattle.rule_table.specs.declared.{classes.{Class.Class, Layer.Layer}, technology.Tech.Tech}
use Rattle.sym_items.specs.{declared.items.{Coords.Coords, End.End, Item.Item}, Sides.gap_in, Standing.nowhere}
use Rattle.sym_items.specs.{Standing.StandTogether, Transposed.values_along, Values.{value_of, end_under}}
use Rattle.cell_model.specs.declared.cell.{Axis2.{Axis2, TheVariants.{Across, Up}}, Cell.Cell, Nets.Nets}
use Rattle.cell_model.specs.Sound.{wire_at, IsBuriedEnd, LeaveOneSide}
use Rattle.cell_model.specs.declared.cell.WireEnd.TheVariants as ends
use Rattle.pair_rules.specs.{Bound.{no_item, item_at, is_poly_on_diffusion, IsBound, bound_spacing}, Clean.IsSpaced}
use Rattle.pair_rules.{specs.Clean.IsClean, proofs.BoundItems.bound_exactly}
use Rattle.expand.specs.{declared.master.Master.Master, Masters.IsMaster, NodeItems.item_running, Variables.half}
use Rattle.expand.specs.{Variables.cross_of, WireItems.{terminal, contact_at}}
use Rattle.buried_contacts.proofs.{Contacts.stands_there, Owners.{LayerHas, IsBoxOfWire, item_keeps, run_of}}
use Rattle.instance_laws.proofs.{InCell.{low_in, high_in, EndsOnBorder, LiesBetween}, Layers.one_layer_only}
use Rattle.instance_laws.proofs.OnBorder.{runs_along, other, LiesAsRun, lies_as_run}

-- ---- boxes of wires of one cell

-- a clean layout keeps the spacing of two items that are bound
pub spaced_in : (tech : Tech) (layout : Coords) (items : List Item) (a b : Item) (s : ℤ) → IsClean tech layout items
    → Contains items a → Contains items b → IsBound tech a b s → s ≤ℤ gap_in layout a b
spaced_in tech layout items a b s clean in_a in_b bound =
    let at_a : item_at items in_a.0 ≡ a = get_or_default items in_a.0 no_item a in_a.1 ∙ in_a.2 in
    let at_b : item_at items in_b.0 ≡ b = get_or_default items in_b.0 no_item b in_b.1 ∙ in_b.2 in
    let first : IsSpaced tech layout a (item_at items in_b.0) =
    subst (λ (z : Item). IsSpaced tech layout z (item_at items in_b.0)) at_a
    (clean in_a.0 in_b.0 in_a.1 in_b.1) in
    let both : IsSpaced tech layout a b = subst (IsSpaced tech layout a) at_b first in
    subst (λ o. IfSome o (λ z. z ≤ℤ gap_in layout a b))
    ((bound_exactly tech a b (bound_spacing tech a b) refl s).1 bound) both

-- the net of a box is its wire's
box_net : (along : Axis2) (run : Item) (c : Class)
    → (let i : Item = record (item_running along run) { class = c } in i.net) ≡ run.net
box_net Across run c = refl
box_net Up run c = refl

pub net_of_box : (tech : Tech) (cell : Cell) (nets : Nets) (i : Item) (w : ℕ) → IsBoxOfWire tech cell nets i w
    → i.net ≡ slice_index nets.wire w
net_of_box tech cell nets i w h = ap (λ (j : Item). j.net) h.is
    ∙ box_net (wire_at cell.wires w).along (run_of tech cell nets w) i.class

-- boxes of two wires that end on one border stand at one buried contact only where they are of one layer
stands_at_low : (tech : Tech) (cell : Cell) (nets : Nets) (i : Item) (w j n : ℕ) → IsBoxOfWire tech cell nets i w
    → (wire_at cell.wires w).high ≡ ends.Port j → n ≢ nowhere → (i.at_low ≡ n) ⊎ (i.at_high ≡ n)
    → ((wire_at cell.wires w).low ≡ ends.Node n) × IsBuriedEnd cell (ends.Node n)
stands_at_low tech cell nets i w j n box far ne (inl e) =
    stands_there cell (wire_at cell.wires w).low n ne (sym (item_keeps tech cell nets i w box).at_low ∙ e)
stands_at_low tech cell nets i w j n box far ne (inr e) =
    let at : contact_at cell (wire_at cell.wires w).high ≡ n = sym (item_keeps tech cell nets i w box).at_high ∙ e in
    absurd (ne (sym at ∙ ap (contact_at cell) far))

pub not_together : (tech : Tech) (master : Master) (nets : Nets) (a b : Item) (u v j k : ℕ) → IsMaster tech master
    → IsBoxOfWire tech master.cell nets a u → IsBoxOfWire tech master.cell nets b v
    → (wire_at master.cell.wires u).along ≡ (wire_at master.cell.wires v).along
    → (wire_at master.cell.wires u).high ≡ ends.Port j → (wire_at master.cell.wires v).high ≡ ends.Port k
    → IsTrue (is_poly_on_diffusion a.class b.class) → StandTogether a b → ⊥
not_together tech master nets a b u v j k m box_a box_b along far_a far_b lies (n, at_a, at_b) =
    let cell : Cell = master.cell in
    let here = stands_at_low tech cell nets a u j n box_a far_a at_a.0 at_a.1 in
    let there = stands_at_low tech cell nets b v k n box_b far_b at_b.0 at_b.1 in
    let leave : LeaveOneSide cell (wire_at cell.wires u) (wire_at cell.wires v) =
    (along, inl (here.0 ∙ sym there.0, subst (IsBuriedEnd cell) (sym here.0) here.1)) in
    let one = m.sound.sides u v box_a.among box_b.among leave in
    one_layer_only (wire_at cell.wires v).layer a.class b.class
    (subst (λ (l : Layer). LayerHas l a.class) one box_a.class) box_b.class lies

-- ---- gaps on one axis

-- items that do not lie apart on an axis lie apart on the other
pub apart_on_other : (axis : Axis) (layout : Coords) (a b : Item) (s : ℤ) → pos 1 ≤ℤ s → s ≤ℤ gap_in layout a b
    → (let x : ℕ → ℤ = value_of (values_along axis layout) in gap_between (low_in axis x a) (high_in axis x a)
    (low_in axis x b) (high_in axis x b)) ≤ℤ pos 0
    → (let y : ℕ → ℤ = value_of (values_along (other axis) layout) in s ≤ℤ gap_between (low_in (other axis) y a)
    (high_in (other axis) y a) (low_in (other axis) y b) (high_in (other axis) y b))
apart_on_other X layout a b s positive h touch = second _ _ s positive h touch
  where
    second : (x y s : ℤ) → pos 1 ≤ℤ s → s ≤ℤ int_max x y → x ≤ℤ pos 0 → s ≤ℤ y
    second x y s positive h touch = omega (arith, ints, clamps, positive, h, touch)
apart_on_other Y layout a b s positive h touch = first _ _ s positive h touch
  where
    first : (x y s : ℤ) → pos 1 ≤ℤ s → s ≤ℤ int_max x y → y ≤ℤ pos 0 → s ≤ℤ x
    first x y s positive h touch = omega (arith, ints, clamps, positive, h, touch)

-- two items that both end on the far border do not lie apart
pub both_far : (axis : Axis) (tech : Tech) (x : ℕ → ℤ) (a b : Item) → LiesBetween axis tech x a
    → LiesBetween axis tech x b → EndsOnBorder axis a → EndsOnBorder axis b
    → gap_between (low_in axis x a) (high_in axis x a) (low_in axis x b) (high_in axis x b) ≤ℤ pos 0
both_far axis tech x a b lies_a lies_b on_a on_b =
    let far_a = lies_a.far on_a in
    let far_b = lies_b.far on_b in
    let order_a = lies_a.ordered in
    let order_b = lies_b.ordered in
    omega (arith, ints, clamps, far_a, far_b, order_a, order_b)

-- ---- the wire that meets another

-- a box of a wire lies along the axis where its wire runs along it
pub lies_along : (axis : Axis) (along : Axis2) (run : Item) (c : Class) → along ≡ runs_along axis
    → let i : Item = record (item_running along run) { class = c } in LiesAsRun axis along i run
lies_along X Across run c e =
    elim (lies_as_run X Across run c) [ inl h ↦ h | inr h ↦ absurd (let f = h.along_is in cc) ]
lies_along Y Up run c e = elim (lies_as_run Y Up run c) [ inl h ↦ h | inr h ↦ absurd (let f = h.along_is in cc) ]
lies_along X Up run c e = absurd cc
lies_along Y Across run c e = absurd cc

pub ends_on_border : (axis : Axis) (tech : Tech) (cell : Cell) (nets : Nets) (i : Item) (w j : ℕ)
    → LiesAsRun axis (wire_at cell.wires w).along i (run_of tech cell nets w)
    → (wire_at cell.wires w).high ≡ ends.Port j → EndsOnBorder axis i
ends_on_border axis tech cell nets i w j lies far = ap (λ (e : End). e.var) lies.high ∙ ap (terminal 1) far

-- the sides of a wire across its run
pub low_side : (axis : Axis) (tech : Tech) (cell : Cell) (nets : Nets) (i : Item) (w : ℕ) (x : ℕ → ℤ)
    → LiesAsRun axis (wire_at cell.wires w).along i (run_of tech cell nets w)
    → low_in (other axis) x i ≡ (x (cross_of cell w) +ℤ neg_ℤ (half (wire_at cell.wires w).width))
low_side axis tech cell nets i w x lies = ap (end_under x) lies.cross_low

pub high_side : (axis : Axis) (tech : Tech) (cell : Cell) (nets : Nets) (i : Item) (w : ℕ) (x : ℕ → ℤ)
    → LiesAsRun axis (wire_at cell.wires w).along i (run_of tech cell nets w)
    → high_in (other axis) x i ≡ (x (cross_of cell w) +ℤ half (wire_at cell.wires w).width)
high_side axis tech cell nets i w x lies = ap (end_under x) lies.cross_high
