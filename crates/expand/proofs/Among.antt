-- The items of a cell lie among its variables, and their lengths are small.
use Rattle.std.proofs.Common.{◌≡◌, ℕ, zero, suc, ◌+◌, ◌<◌, ◌≤◌, ℤ, pos, ◌+ℤ◌, ◌-ℤ◌, ◌*ℤ◌, ◌≤ℤ◌, Bool, true, false, List}
use Rattle.std.proofs.Common.{[], ◌∷◌, length, map, take, All, cond, refl, sym, ap, ◌∙◌, subst, arith}
use Rattle.std.{proofs.lemmas.{Int.ints, List.{Elements.All-from_recursion, Sums.sum_by-cons}}, specs.Prelude.neg_ℤ}
use Rattle.std.specs.{Prelude.{slice_index, int_lt}, Int.int_max, List.{flat_map, range_with_len, AllByRecursion}}
use Rattle.lam_geom.specs.declared.boxes.Axis.{Axis, TheVariants.{X, Y}}
use Rattle.rule_table.specs.declared.{technology.Tech.Tech, classes.{Class.Class, Layer.{Layer, TheVariants.Diffusion}}}
use Rattle.rule_table.specs.{declared.classes.Layer.TheVariants.{Poly, Metal}, Bounds.{IsSize, IsTechnology}}
use Rattle.rule_table.specs.Technology.{numbers_of, pad_of, width_of}
use Rattle.rule_table.proofs.{Sound.sound, Widths.{pad_bounds, pad_even}}
use Rattle.sym_items.specs.{declared.items.{Item.Item, End.End, Items.Items}, Transposed.transposed_item}
use Rattle.cell_model.specs.declared.cell.{Axis2.{Axis2, TheVariants.{Across, Up}}, NodeKind.NodeKind}
use Rattle.cell_model.specs.declared.cell.{NodeKind.TheVariants.{Joint, Contact, Buried, Fet}, NodeNets.NodeNets}
use Rattle.cell_model.specs.{declared.cell.{WireEnd.WireEnd, Wire.Wire, Nets.Nets, Cell.Cell}, Wiring.is_same_axis}
use Rattle.cell_model.specs.{Wiring.buried_pad, Sound.{IsInOrder, IsKind, IsEnd, IsWire, IsSound, node_at, wire_at}}
use Rattle.cell_model.specs.declared.cell.WireEnd.TheVariants as ends
use Rattle.expand.specs.{Variables.{half, centre, past, running, cross_of, variables_of}, NodeItems.item_running}
use Rattle.expand.specs.NodeItems.{on_layer, box_at, box_round, square_round, standing_at, channel_items, kind_items}
use Rattle.expand.specs.WireItems.{half_channel, reach, low_end_of, high_end_of, contact_at, run_item, wire_items}
use Rattle.expand.specs.{Items.{items_of_node, items_of_wire, item_list, AreItems}, Bounds.{IsSmall, IsNear}}
use Rattle.expand.specs.Bounds.{IsEndAmong, IsSpanAmong, IsItemAmong, LiesAlong, IsNearAlong}
use Rattle.expand.proofs.{Cells.{node_sound, wire_sound}, CrossVariables.running_more}
use Rattle.list_facts.proofs.Elements.{all_append, all_flat, all_numbers, all_of, all_weaker}

-- ---- lengths

-- half a size, and half the pad
pub half_size : (z : ℤ) → IsSize z → (pos 0 ≤ℤ half z) × (half z ≤ℤ pos 2048)
half_size z h =
    let low = h.low in
    let high = h.high in
    let even : (pos 2 *ℤ half z) ≡ z = h.even in
    (omega (arith, ints), omega (arith, ints))

pub sound_numbers : (tech : Tech) → IsTechnology (numbers_of tech)
sound_numbers tech = sound (numbers_of tech) tech.sound

pub half_pad : (tech : Tech) → (pos 0 ≤ℤ half (pad_of tech)) × (half (pad_of tech) ≤ℤ pos 6144)
half_pad tech =
    let b = pad_bounds (numbers_of tech) (sound_numbers tech) in
    let even : (pos 2 *ℤ half (pad_of tech)) ≡ pad_of tech = pad_even (numbers_of tech) (sound_numbers tech) in
    let low : pos 2 ≤ℤ pad_of tech = b.0 in
    let high : pad_of tech ≤ℤ pos 12288 = b.1 in
    (omega (arith, ints), omega (arith, ints))

-- the pad of a buried contact, and half of it
pub buried_size : (tech : Tech) → IsSize (buried_pad tech)
buried_size tech =
    let n = sound_numbers tech in
    greater_size (width_of tech Diffusion) (width_of tech Poly) n.width_diffusion n.width_poly
  where
    greater_size : (a b : ℤ) → IsSize a → IsSize b → IsSize (int_max a b)
    greater_size a b h k = elim (int_lt b a) as (λ t. IsSize (cond t a b)) [ true ↦ h | false ↦ k ]

pub half_buried : (tech : Tech) → (pos 0 ≤ℤ half (buried_pad tech)) × (half (buried_pad tech) ≤ℤ pos 2048)
half_buried tech = half_size (buried_pad tech) (buried_size tech)

-- ---- boxes of nodes

centre_span : (vars k : ℕ) (low high least : ℤ) → centre k < vars → IsNear low → IsNear high → IsSmall least
    → (low +ℤ least) ≤ℤ high → IsSpanAmong vars (past (centre k) low) (past (centre k) high) least
centre_span vars k low high least lt l h small fits = record {
  low_among = record { among = lt; near = l };
  high_among = record { among = lt; near = h };
  before_far = λ e. omega arith;
  after_origin = λ e. omega arith;
  at_origin = λ e. absurd (let f : 2 + k ≡ 0 = e in omega arith);
  at_far_border = λ e. absurd (let f : 2 + k ≡ 1 = e in omega arith);
  small = small;
  fits = λ e. fits;
}

box_among : (xv yv k : ℕ) (class : Class) (net : ℕ) (left right bottom top : ℤ) → centre k < xv → centre k < yv
    → IsNear left → IsNear right → IsNear bottom → IsNear top
    → IsSmall (right -ℤ left) → IsSmall (top -ℤ bottom) → IsItemAmong xv yv (box_at k class net left right bottom top)
box_among xv yv k class net left right bottom top lx ly l r b t w h = record {
  x = centre_span xv k left right (right -ℤ left) lx l r w (omega (arith, ints));
  y = centre_span yv k bottom top (top -ℤ bottom) ly b t h (omega (arith, ints));
}

-- a half size
pub record IsHalf (z : ℤ) : Type 0 where
  pub low : pos 0 ≤ℤ z
  pub high : z ≤ℤ pos 8192

near_low : (z : ℤ) → IsHalf z → IsNear (neg_ℤ z)
near_low z h = let l = h.low in let m = h.high in record { low = omega (arith, ints); high = omega (arith, ints) }

near_high : (z : ℤ) → IsHalf z → IsNear z
near_high z h = let l = h.low in let m = h.high in record { low = omega (arith, ints); high = omega (arith, ints) }

whole : (z : ℤ) → IsHalf z → IsSmall (z -ℤ neg_ℤ z)
whole z h = let l = h.low in let m = h.high in record { low = omega (arith, ints); high = omega (arith, ints) }

round_among : (xv yv k : ℕ) (class : Class) (net : ℕ) (x y : ℤ) → centre k < xv → centre k < yv → IsHalf x → IsHalf y
    → IsItemAmong xv yv (box_round k class net x y)
round_among xv yv k class net x y lx ly hx hy =
    box_among xv yv k class net (neg_ℤ x) x (neg_ℤ y) y lx ly (near_low x hx) (near_high x hx) (near_low y hy)
    (near_high y hy) (whole x hx) (whole y hy)

-- the class of an item does not matter
layer_among : (xv yv : ℕ) (layer : Layer) (i : Item) → IsItemAmong xv yv i
    → AllByRecursion (IsItemAmong xv yv) (on_layer layer i)
layer_among xv yv Metal i h = (record { x = h.x; y = h.y }, tt)
layer_among xv yv Poly i h = (record { x = h.x; y = h.y }, tt)
layer_among xv yv Diffusion i h = (record { x = h.x; y = h.y }, (record { x = h.x; y = h.y }, tt))

-- nor does where it stands
standing_among : (xv yv k : ℕ) (i : Item) → IsItemAmong xv yv i → IsItemAmong xv yv (standing_at k i)
standing_among xv yv k i h = record { x = h.x; y = h.y }

-- x and y exchanged
transposed_among : (xv yv : ℕ) (i : Item) → IsItemAmong yv xv i → IsItemAmong xv yv (transposed_item i)
transposed_among xv yv i h = record { x = h.y; y = h.x }

running_among : (xv yv : ℕ) (gate : Axis2) (is : List Item) → AllByRecursion (IsItemAmong xv yv) is
    → AllByRecursion (IsItemAmong yv xv) is → AllByRecursion (IsItemAmong xv yv) (map (item_running gate) is)
running_among xv yv gate [] h k = tt
running_among xv yv Across (i ∷ is) h k = (h.0, running_among xv yv Across is h.1 k.1)
running_among xv yv Up (i ∷ is) h k = (transposed_among xv yv i k.0, running_among xv yv Up is h.1 k.1)

-- a half size of a channel, with what extends past it
longer : (z e : ℤ) → (pos 0 ≤ℤ z) × (z ≤ℤ pos 2048) → (pos 0 ≤ℤ e) × (e ≤ℤ pos 4096) → IsHalf (z +ℤ e)
longer z e h k = let a = h.0 in let b = h.1 in let c = k.0 in let d =
    k.1 in record { low = omega (arith, ints); high = omega (arith, ints) }

shorter : (z : ℤ) → (pos 0 ≤ℤ z) × (z ≤ℤ pos 2048) → IsHalf z
shorter z h = let a = h.0 in let b = h.1 in record { low = a; high = omega (arith, ints) }

piece_below : (z e : ℤ) → (pos 0 ≤ℤ z) × (z ≤ℤ pos 2048) → (pos 0 ≤ℤ e) × (e ≤ℤ pos 4096)
    → IsSmall (neg_ℤ z -ℤ neg_ℤ (z +ℤ e))
piece_below z e h k = let a = h.0 in let b = h.1 in let c = k.0 in let d =
    k.1 in record { low = omega (arith, ints); high = omega (arith, ints) }

piece_above : (z e : ℤ) → (pos 0 ≤ℤ z) × (z ≤ℤ pos 2048) → (pos 0 ≤ℤ e) × (e ≤ℤ pos 4096) → IsSmall ((z +ℤ e) -ℤ z)
piece_above z e h k = let a = h.0 in let b = h.1 in let c = k.0 in let d =
    k.1 in record { low = omega (arith, ints); high = omega (arith, ints) }

implant_among : (xv yv k net : ℕ) (depletion : Bool) (i : Item) → IsItemAmong xv yv i
    → AllByRecursion (IsItemAmong xv yv) (cond depletion (i ∷ []) [])
implant_among xv yv k net true i h = (h, tt)
implant_among xv yv k net false i h = tt

channel_among : (xv yv : ℕ) (tech : Tech) (k : ℕ) (nets : NodeNets) (depletion : Bool) (x y : ℤ) → centre k < xv
    → centre k < yv
    → (pos 0 ≤ℤ x) × (x ≤ℤ pos 2048) → (pos 0 ≤ℤ y) × (y ≤ℤ pos 2048)
    → AllByRecursion (IsItemAmong xv yv) (channel_items tech k nets depletion x y)
channel_among xv yv tech k nets depletion x y lx ly hx hy =
    let r = (sound_numbers tech).in_range in
    let poly = longer x (numbers_of tech).extension_poly hx r.extension_poly in
    let diffusion = longer y (numbers_of tech).extension_diffusion hy r.extension_diffusion in
    let implant_x = longer x (numbers_of tech).extension_implant hx r.extension_implant in
    let implant_y = longer y (numbers_of tech).extension_implant hy r.extension_implant in
    let sx = shorter x hx in
    let sy = shorter y hy in (
      round_among xv yv k _ nets.main _ _ lx ly poly sy,
      (
        round_among xv yv k _ nets.low _ _ lx ly sx diffusion,
        (
          box_among xv yv k _ nets.low _ _ _ _ lx ly (near_low x sx) (near_high x sx) (near_low _ diffusion)
              (near_low y sy) (whole x sx) (piece_below y _ hy r.extension_diffusion),
          (
            box_among xv yv k _ nets.high _ _ _ _ lx ly (near_low x sx) (near_high x sx) (near_high y sy)
                (near_high _ diffusion) (whole x sx) (piece_above y _ hy r.extension_diffusion),
            (
              round_among xv yv k _ nets.main _ _ lx ly sx sy,
              implant_among xv yv k nets.main depletion _
                  (round_among xv yv k _ nets.main _ _ lx ly implant_x implant_y),
            ),
          ),
        ),
      ),
    )

kind_among : (xv yv : ℕ) (tech : Tech) (k : ℕ) (kind : NodeKind) (nets : NodeNets) → centre k < xv → centre k < yv
    → IsKind tech kind → AllByRecursion (IsItemAmong xv yv) (kind_items tech k kind nets)
kind_among xv yv tech k (Joint layer width) nets lx ly h =
    let s = shorter (half width) (half_size width h.0) in
    layer_among xv yv layer _ (round_among xv yv k _ nets.main _ _ lx ly s s)
kind_among xv yv tech k (Contact lower) nets lx ly h =
    let p = half_pad tech in
    let p0 = p.0 in
    let p1 = p.1 in
    let pad : IsHalf (half (pad_of tech)) = record { low = p0; high = omega (arith, ints) } in
    let cut = shorter _ (half_size _ (sound_numbers tech).cut_size) in (
      round_among xv yv k _ nets.main _ _ lx ly pad
          pad,
      (
        round_among xv yv k _ nets.main _ _ lx ly cut cut,
        layer_among xv yv lower _
            (round_among xv yv k _ nets.main _ _ lx ly pad pad),
      ),
    )
kind_among xv yv tech k Buried nets lx ly h =
    let pad = half_buried tech in
    let s = shorter _ pad in
    let window = longer _ (numbers_of tech).extension_buried pad (sound_numbers tech).in_range.extension_buried in
    let square : (class : Class)
    → IsItemAmong xv yv (standing_at k (square_round k class nets.main (half (buried_pad tech)))) =
    λ class. standing_among xv yv k _ (round_among xv yv k class nets.main _ _ lx ly s s) in (
      square _,
      (
        square _,
        (square _, (standing_among xv yv k _ (round_among xv yv k _ nets.main _ _ lx ly window window), tt)),
      ),
    )
kind_among xv yv tech k (Fet depletion gate w l) nets lx ly h =
    running_among xv yv gate (channel_items tech k nets depletion (half w) (half l))
    (channel_among xv yv tech k nets depletion _ _ lx ly (half_size w h.0) (half_size l h.1))
    (channel_among yv xv tech k nets depletion _ _ ly lx (half_size w h.0) (half_size l h.1))

-- ---- wires

half_channel_among : (gate : Axis2) (w l : ℤ) (along : Axis2) → IsSize w → IsSize l
    → (pos 0 ≤ℤ half_channel gate w l along) × (half_channel gate w l along ≤ℤ pos 2048)
half_channel_among Across w l Across hw hl = half_size w hw
half_channel_among Across w l Up hw hl = half_size l hl
half_channel_among Up w l Across hw hl = half_size l hl
half_channel_among Up w l Up hw hl = half_size w hw

-- how far a wire reaches, to either side
reach_among : (tech : Tech) (kind : NodeKind) (width : ℤ) (along : Axis2) → IsKind tech kind → IsSize width
    → IsNear (reach tech kind width along) × IsNear (neg_ℤ (reach tech kind width along))
reach_among tech (Joint layer own) width along h s = let b =
    shorter _ (half_size width s) in (near_high _ b, near_low _ b)
reach_among tech (Contact lower) width along h s = let b =
    shorter _ (half_size width s) in (near_high _ b, near_low _ b)
reach_among tech Buried width along h s = let b = shorter _ (half_size width s) in (near_high _ b, near_low _ b)
reach_among tech (Fet depletion gate w l) width along h s =
    let b = longer (half_channel gate w l along) (numbers_of tech).spacing_poly_diffusion
    (half_channel_among gate w l along h.0 h.1) (sound_numbers tech).in_range.spacing_poly_diffusion in
    let z : ℤ = half_channel gate w l along +ℤ (numbers_of tech).spacing_poly_diffusion in
    let low = b.low in
    let high = b.high in
    (near_low z b, record { low = omega (arith, ints); high = omega (arith, ints) })

-- the ends of a wire among the variables of the axis of its run
low_among : (vars : ℕ) (tech : Tech) (cell : Cell) (wire : Wire) (end : WireEnd) → IsSound tech cell
    → IsSize wire.width → 2 + length cell.nodes ≤ vars → IsEnd cell end
    → IsEndAmong vars (low_end_of tech cell wire end)
low_among vars tech cell wire (ends.Node j) s w le lt =
    record {
      among = omega (arith, lt);
      near = (reach_among tech (node_at cell.nodes j).kind wire.width wire.along (node_sound tech cell j s lt).kind
          w).1;
    }
low_among vars tech cell wire (ends.Port j) s w le lt =
    record { among = omega arith; near = record { low = omega (arith, ints); high = omega (arith, ints) } }

high_among : (vars : ℕ) (tech : Tech) (cell : Cell) (wire : Wire) (end : WireEnd) → IsSound tech cell
    → IsSize wire.width → 2 + length cell.nodes ≤ vars → IsEnd cell end
    → IsEndAmong vars (high_end_of tech cell wire end)
high_among vars tech cell wire (ends.Node j) s w le lt =
    record {
      among = omega (arith, lt);
      near = (reach_among tech (node_at cell.nodes j).kind wire.width wire.along (node_sound tech cell j s lt).kind
          w).0;
    }
high_among vars tech cell wire (ends.Port j) s w le lt =
    record { among = omega arith; near = record { low = omega (arith, ints); high = omega (arith, ints) } }

low_before_far : (tech : Tech) (cell : Cell) (wire : Wire) (end : WireEnd) → (low_end_of tech cell wire end).var ≡ 1 → ⊥
low_before_far tech cell wire (ends.Node j) e = let f : 2 + j ≡ 1 = e in omega arith
low_before_far tech cell wire (ends.Port j) e = let f : ◌≡◌ {A = ℕ} 0 1 = e in omega arith

high_after_origin : (tech : Tech) (cell : Cell) (wire : Wire) (end : WireEnd)
    → (high_end_of tech cell wire end).var ≡ 0 → ⊥
high_after_origin tech cell wire (ends.Node j) e = let f : 2 + j ≡ 0 = e in omega arith
high_after_origin tech cell wire (ends.Port j) e = let f : ◌≡◌ {A = ℕ} 1 0 = e in omega arith

low_at_origin : (tech : Tech) (cell : Cell) (wire : Wire) (end : WireEnd) → (low_end_of tech cell wire end).var ≡ 0
    → (low_end_of tech cell wire end).off ≡ pos 0
low_at_origin tech cell wire (ends.Node j) e = absurd (let f : 2 + j ≡ 0 = e in omega arith)
low_at_origin tech cell wire (ends.Port j) e = refl

high_at_far : (tech : Tech) (cell : Cell) (wire : Wire) (end : WireEnd) → (high_end_of tech cell wire end).var ≡ 1
    → (high_end_of tech cell wire end).off ≡ pos 0
high_at_far tech cell wire (ends.Node j) e = absurd (let f : 2 + j ≡ 1 = e in omega arith)
high_at_far tech cell wire (ends.Port j) e = refl

-- a wire does not end at the terminal at which it begins
in_order_differ : (cell : Cell) (along : Axis2) (j k : ℕ) → IsInOrder cell along (ends.Node j) (ends.Node k) → j ≡ k → ⊥
in_order_differ cell Across j k h e = let f = ap (λ (n : ℕ). (node_at cell.nodes n).col) e in omega (arith, f, h)
in_order_differ cell Up j k h e = let f = ap (λ (n : ℕ). (node_at cell.nodes n).row) e in omega (arith, f, h)

ends_differ : (tech : Tech) (cell : Cell) (wire : Wire) (low high : WireEnd) → IsInOrder cell wire.along low high
    → (low_end_of tech cell wire low).var ≡ (high_end_of tech cell wire high).var → ⊥
ends_differ tech cell wire (ends.Node j) (ends.Node k) h e =
    in_order_differ cell wire.along j k h (let f : 2 + j ≡ 2 + k = e in omega arith)
ends_differ tech cell wire (ends.Node j) (ends.Port k) h e = let f : 2 + j ≡ 1 = e in omega arith
ends_differ tech cell wire (ends.Port j) (ends.Node k) h e = let f : 0 ≡ 2 + k = e in omega arith
ends_differ tech cell wire (ends.Port j) (ends.Port k) h e = let f : ◌≡◌ {A = ℕ} 0 1 = e in omega arith

small_size : (z : ℤ) → IsSize z → IsSmall z
small_size z s = let l = s.low in let h = s.high in record { low = omega (arith, ints); high = omega (arith, ints) }

-- the ends of a wire among the variables of the axis of its run
run_span : (vars : ℕ) (tech : Tech) (cell : Cell) (wire : Wire) → IsSound tech cell → IsWire tech cell wire
    → 2 + length cell.nodes ≤ vars
    → IsSpanAmong vars (low_end_of tech cell wire wire.low) (high_end_of tech cell wire wire.high) wire.width
run_span vars tech cell wire s w le = record {
  low_among = low_among vars tech cell wire wire.low s w.size le w.low;
  high_among = high_among vars tech cell wire wire.high s w.size le w.high;
  before_far = low_before_far tech cell wire wire.low;
  after_origin = high_after_origin tech cell wire wire.high;
  at_origin = low_at_origin tech cell wire wire.low;
  at_far_border = high_at_far tech cell wire wire.high;
  small = small_size wire.width w.size;
  fits = λ e. absurd (ends_differ tech cell wire wire.low wire.high w.ordered e);
}

run_among : (av cv : ℕ) (owner net v : ℕ) (width : ℤ) (low high : End) (at_low at_high : ℕ) → IsSize width
    → IsSpanAmong av low high width → 2 + v < cv
    → IsItemAmong av cv (run_item owner net (2 + v) width low high at_low at_high)
run_among av cv owner net v width low high at_low at_high s span lt =
    let b = shorter _ (half_size width s) in
    let even : (pos 2 *ℤ half width) ≡ width = s.even in
    record {
      x = span;
      y = centre_span cv v _ _ _ lt (near_low _ b) (near_high _ b) (small_size width s)
          (omega (arith, ints));
    }

-- the first wires that run along an axis are no more than all
running_take : (along : Axis2) (k : ℕ) (wires : List Wire) → running along (take k wires) ≤ running along wires
running_take along zero wires = omega arith
running_take along (suc k) [] = omega arith
running_take along (suc k) (w ∷ wires) =
    let f : Wire → ℕ = λ v. cond (is_same_axis v.along along) 1 0 in
    let h = running_take along k wires in
    let a : running along (take (suc k) (w ∷ wires)) ≡ f w + running along (take k wires) =
    sum_by-cons f w (take k wires) in
    let b : running along (w ∷ wires) ≡ f w + running along wires = sum_by-cons f w wires in
    omega arith

same_axis : (along : Axis2) → is_same_axis along along ≡ true
same_axis Across = refl
same_axis Up = refl

-- the cross coordinate of a wire is among the variables
pub cross_among : (cell : Cell) (k : ℕ) → k < length cell.wires
    → cross_of cell k < 2 + length cell.nodes + running (wire_at cell.wires k).along cell.wires
cross_among cell k lt =
    let along : Axis2 = (wire_at cell.wires k).along in
    let m : running along (take (k + 1) cell.wires) ≡ running along (take k cell.wires) + cond
    (is_same_axis along along) 1 0 = running_more along cell.wires k lt in
    let n : running along (take (k + 1) cell.wires) ≡ running along (take k cell.wires) + 1 = m
    ∙ ap (λ (b : Bool). running along (take k cell.wires) + cond b 1 0) (same_axis along) in
    let t = running_take along (k + 1) cell.wires in
    omega arith

turned_among : (xv yv : ℕ) (along : Axis2) (i : Item) → (along ≡ Across → IsItemAmong xv yv i)
    → (along ≡ Up → IsItemAmong yv xv i) → IsItemAmong xv yv (item_running along i)
turned_among xv yv Across i a u = a refl
turned_among xv yv Up i a u = transposed_among xv yv i (u refl)

wire_among : (xv yv : ℕ) (tech : Tech) (cell : Cell) (owner net v : ℕ) (wire : Wire) → IsSound tech cell
    → IsWire tech cell wire → 2 + length cell.nodes ≤ xv → 2 + length cell.nodes ≤ yv
    → (wire.along ≡ Up → 2 + v < xv) → (wire.along ≡ Across → 2 + v < yv)
    → AllByRecursion (IsItemAmong xv yv) (wire_items tech cell owner net (2 + v) wire)
wire_among xv yv tech cell owner net v wire s w lx ly up across =
    let i : Item = run_item owner net (2 + v) wire.width (low_end_of tech cell wire wire.low)
    (high_end_of tech cell wire wire.high) (contact_at cell wire.low) (contact_at cell wire.high) in
    layer_among xv yv wire.layer (item_running wire.along i)
    (turned_among xv yv wire.along i
    (λ e. run_among xv yv owner net v _ _ _ _ _ w.size (run_span xv tech cell wire s w lx) (across e))
    (λ e. run_among yv xv owner net v _ _ _ _ _ w.size (run_span yv tech cell wire s w ly) (up e)))

-- wire k has its cross coordinate on the axis across its run
cross_on : (cell : Cell) (k : ℕ) (along : Axis2) → k < length cell.wires → (wire_at cell.wires k).along ≡ along
    → cross_of cell k < 2 + length cell.nodes + running along cell.wires
cross_on cell k along lt e =
    let P : Axis2 → Type 0 = λ a. cross_of cell k < 2 + length cell.nodes + running a cell.wires in
    subst P e (cross_among cell k lt)

numbered_among : (tech : Tech) (cell : Cell) (nets : Nets) (k : ℕ) → IsSound tech cell → k < length cell.wires
    → AllByRecursion (IsItemAmong (variables_of X cell) (variables_of Y cell)) (items_of_wire tech cell nets k)
numbered_among tech cell nets k s lt =
    let xv : ℕ = variables_of X cell in
    let yv : ℕ = variables_of Y cell in
    let wire : Wire = wire_at cell.wires k in
    let v : ℕ = length cell.nodes + running wire.along (take k cell.wires) in
    let net : ℕ = slice_index nets.wire k in
    let is : 2 + v ≡ cross_of cell k = omega arith in
    let P : ℕ → Type 0 = λ c. AllByRecursion (IsItemAmong xv yv)
    (wire_items tech cell (length cell.nodes + k) net c wire) in
    subst P is
    (wire_among xv yv tech cell (length cell.nodes + k) net v wire s (wire_sound tech cell k s lt) (omega arith)
    (omega arith)
    (λ e. let u = cross_on cell k Up lt e in omega arith) (λ e. let u = cross_on cell k Across lt e in omega arith))

-- all items of a cell
pub items_among : (tech : Tech) (cell : Cell) (nets : Nets) → IsSound tech cell
    → AllByRecursion (IsItemAmong (variables_of X cell) (variables_of Y cell)) (item_list tech cell nets)
unfolding item_list
items_among tech cell nets s =
    let xv : ℕ = variables_of X cell in
    let yv : ℕ = variables_of Y cell in
    let P : Item → Type 0 = IsItemAmong xv yv in
    let n : ℕ = length cell.nodes in
    all_append P (flat_map (items_of_node tech cell nets) (range_with_len 0 n))
    (flat_map (items_of_wire tech cell nets) (range_with_len 0 (length cell.wires)))
    (all_flat P (items_of_node tech cell nets) (range_with_len 0 n)
    (all_numbers (λ k. AllByRecursion P (items_of_node tech cell nets k)) 0 n
    (λ k le lt. kind_among xv yv tech k _ _ (omega arith) (omega arith)
    (node_sound tech cell k s (omega arith)).kind)))
    (all_flat P (items_of_wire tech cell nets) (range_with_len 0 (length cell.wires))
    (all_numbers (λ k. AllByRecursion P (items_of_wire tech cell nets k)) 0 (length cell.wires)
    (λ k le lt. numbered_among tech cell nets k s (omega arith))))

-- along an axis
pub list_lies : (tech : Tech) (cell : Cell) (nets : Nets) → IsSound tech cell → (axis : Axis)
    → All (LiesAlong axis cell) (item_list tech cell nets)
list_lies tech cell nets s axis =
    let I : Item → Type 0 = IsItemAmong (variables_of X cell) (variables_of Y cell) in
    all_of (LiesAlong axis cell) (item_list tech cell nets)
    (all_weaker I (LiesAlong axis cell) (along axis cell) (item_list tech cell nets)
    (items_among tech cell nets s))
  where
    along : (axis : Axis) (cell : Cell) (i : Item) → IsItemAmong (variables_of X cell) (variables_of Y cell) i
        → LiesAlong axis cell i
    along X cell i h = h.x
    along Y cell i h = h.y

pub small_near : (z : ℤ) → IsSmall z → IsNear z
small_near z h = let a = h.low in let b = h.high in record { low = omega (arith, ints); high = omega (arith, ints) }

-- the same of items as the code has them
pub items_lie : (tech : Tech) (cell : Cell) (items : Items) → IsSound tech cell → AreItems tech cell items
    → (axis : Axis) → All (LiesAlong axis cell) items.list
items_lie tech cell items s are axis =
    let P : Items → Type 0 = λ i. All (LiesAlong axis cell) i.list in
    subst P (sym are.are) (list_lies tech cell are.nets s axis)

-- the items are near their variables
pub items_near : (axis : Axis) (tech : Tech) (cell : Cell) (items : Items) (list : List Item) → IsSound tech cell
    → AreItems tech cell items → list ≡ items.list → All (IsNearAlong axis) list
items_near axis tech cell items list s are e =
    let P : List Item → Type 0 = All (IsNearAlong axis) in
    let lie = items_lie tech cell items s are axis in
    subst P (sym e)
    (λ k d lt. let h = lie k d lt in
    record { low = h.low_among.near; high = h.high_among.near; least = small_near _ h.small })

-- the same of a list and of counts that are known to be those of the cell
pub among_of : (tech : Tech) (cell : Cell) (nets : Nets) (list : List Item) (xv yv : ℕ) → IsSound tech cell
    → list ≡ item_list tech cell nets → xv ≡ variables_of X cell → yv ≡ variables_of Y cell
    → All (IsItemAmong xv yv) list
among_of tech cell nets list xv yv s e ex ey =
    let L : List Item → Type 0 = λ is. All (IsItemAmong xv yv) is in
    let V : ℕ → Type 0 = λ n. All (IsItemAmong n yv) (item_list tech cell nets) in
    let W : ℕ → Type 0 = λ n. All (IsItemAmong (variables_of X cell) n) (item_list tech cell nets) in
    let h = All-from_recursion (IsItemAmong (variables_of X cell) (variables_of Y cell)) (item_list tech cell nets)
    (items_among tech cell nets s) in
    subst L (sym e) (subst V (sym ex) (subst W (sym ey) h))
