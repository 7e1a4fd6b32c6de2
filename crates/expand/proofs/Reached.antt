-- From each variable but the borders some item begins: from a centre one of its node, from a cross coordinate one of
-- its wire. So a margin leads from the origin to it.
use Rattle.std.proofs.Common.{◌≡◌, ℕ, zero, suc, ◌+◌, ◌-◌, ◌<◌, ◌≤◌, ℤ, pos, ◌+ℤ◌, ◌≤ℤ◌, Bool, true, false, List, []}
use Rattle.std.proofs.Common.{◌∷◌, ◌++◌, length, take, cond, refl, sym, ap, subst, arith, inl, inr}
use Rattle.std.proofs.lemmas.{Bool.cases_lt, Int.ints, List.Sums.sum_by-cons}
use Rattle.std.specs.{Prelude.{neg_ℤ, slice_index}, List.{flat_map, range_with_len, Any}}
use Rattle.lam_geom.specs.declared.boxes.Axis.{Axis, TheVariants.{X, Y}}
use Rattle.rule_table.specs.declared.{technology.Tech.Tech, classes.{Class.{Class, TheVariants.M}, Layer.Layer}}
use Rattle.rule_table.specs.{declared.classes.Layer.TheVariants.{Diffusion, Poly, Metal}, Bounds.IsSize}
use Rattle.rule_table.specs.Technology.{numbers_of, pad_of}
use Rattle.rule_table.specs.declared.classes.Class.TheVariants as classes
use Rattle.sym_items.specs.{declared.items.{Item.Item, End.End}, Transposed.item_along}
use Rattle.cell_model.specs.declared.cell.{Axis2.{Axis2, TheVariants.{Across, Up}}, NodeKind.NodeKind}
use Rattle.cell_model.specs.declared.cell.{NodeKind.TheVariants.{Joint, Contact, Buried, Fet}, NodeNets.NodeNets}
use Rattle.cell_model.specs.{declared.cell.{Wire.Wire, Nets.Nets, Cell.Cell}, Wiring.{is_same_axis, buried_pad}}
use Rattle.cell_model.specs.Sound.{IsKind, IsSound, node_at, wire_at}
use Rattle.expand.specs.{Variables.{half, centre, running, cross_of, crossing, variables_of}, NodeItems.item_running}
use Rattle.expand.specs.{NodeItems.{on_layer, square_round, standing_at, kind_items}, WireItems.low_end_of}
use Rattle.expand.specs.{WireItems.{high_end_of, contact_at, run_item, wire_items}, Items.{nets_at, items_of_node}}
use Rattle.expand.specs.Items.{items_of_wire, item_list}
use Rattle.expand.proofs.{Cells.{node_sound, wire_sound}, Among.{half_size, half_pad, half_buried, sound_numbers}}
use Rattle.list_facts.proofs.Some.{any_here, any_left, any_right, any_flat_map, any_range}

-- ---- items that begin at a variable

-- the low end of an item lies on a variable or before it
pub record BeginsBefore (axis : Axis) (v : ℕ) (i : Item) : Type 0 where
  pub on : (item_along axis i).xl.var ≡ v
  pub before : (item_along axis i).xl.off ≤ℤ pos 0

-- the first of some items has a fact
abbrev FirstHas : (Item → Type 0) → List Item → Type 0
FirstHas P [] = ⊥
FirstHas P (i ∷ is) = P i

first_of_any : (P : Item → Type 0) (is : List Item) → FirstHas P is → Any P is
first_of_any P [] h = absurd h
first_of_any P (i ∷ is) h = any_here P i is h

layer_begins : (axis : Axis) (v : ℕ) (layer : Layer) (i : Item) → BeginsBefore axis v i
    → Any (BeginsBefore axis v) (on_layer layer i)
layer_begins X v Metal i h =
    first_of_any (BeginsBefore X v) (on_layer Metal i) (record { on = h.on; before = h.before })
layer_begins X v Poly i h = first_of_any (BeginsBefore X v) (on_layer Poly i) (record { on = h.on; before = h.before })
layer_begins X v Diffusion i h =
    first_of_any (BeginsBefore X v) (on_layer Diffusion i) (record { on = h.on; before = h.before })
layer_begins Y v Metal i h =
    first_of_any (BeginsBefore Y v) (on_layer Metal i) (record { on = h.on; before = h.before })
layer_begins Y v Poly i h = first_of_any (BeginsBefore Y v) (on_layer Poly i) (record { on = h.on; before = h.before })
layer_begins Y v Diffusion i h =
    first_of_any (BeginsBefore Y v) (on_layer Diffusion i) (record { on = h.on; before = h.before })

before : (z : ℤ) → pos 0 ≤ℤ z → neg_ℤ z ≤ℤ pos 0
before z h = omega (arith, ints)

half_before : (z : ℤ) → IsSize z → neg_ℤ (half z) ≤ℤ pos 0
half_before z h = before (half z) (half_size z h).0

-- the gate's poly reaches past the channel
gate_before : (tech : Tech) (z : ℤ) → IsSize z → neg_ℤ (half z +ℤ (numbers_of tech).extension_poly) ≤ℤ pos 0
gate_before tech z h =
    let extends = (sound_numbers tech).in_range.extension_poly.0 in
    let low = half_before z h in
    omega (arith, ints)

round_begins : (axis : Axis) (k net : ℕ) (class : Class) (z : ℤ) → neg_ℤ z ≤ℤ pos 0
    → BeginsBefore axis (centre k) (square_round k class net z)
round_begins X k net class z h = record { on = refl; before = h }
round_begins Y k net class z h = record { on = refl; before = h }

standing_begins : (axis : Axis) (v k : ℕ) (i : Item) → BeginsBefore axis v i → BeginsBefore axis v (standing_at k i)
standing_begins X v k i h = record { on = h.on; before = h.before }
standing_begins Y v k i h = record { on = h.on; before = h.before }

kind_begins : (axis : Axis) (tech : Tech) (k : ℕ) (kind : NodeKind) (nets : NodeNets) → IsKind tech kind
    → Any (BeginsBefore axis (centre k)) (kind_items tech k kind nets)
kind_begins axis tech k (Joint layer width) nets h =
    layer_begins axis (centre k) layer (square_round k M nets.main (half width))
    (round_begins axis k nets.main M (half width) (half_before width h.0))
kind_begins axis tech k (Contact lower) nets h =
    first_of_any (BeginsBefore axis (centre k)) (kind_items tech k (Contact lower) nets)
    (round_begins axis k nets.main M (half (pad_of tech)) (before (half (pad_of tech)) (half_pad tech).0))
kind_begins axis tech k Buried nets h =
    let pad : ℤ = half (buried_pad tech) in
    first_of_any (BeginsBefore axis (centre k)) (kind_items tech k Buried nets)
    (standing_begins axis (centre k) k (square_round k classes.P nets.main pad)
    (round_begins axis k nets.main classes.P pad (before pad (half_buried tech).0)))
kind_begins X tech k (Fet depletion Across w l) nets h =
    first_of_any (BeginsBefore X (centre k)) (kind_items tech k (Fet depletion Across w l) nets)
    (record { on = refl; before = gate_before tech w h.0 })
kind_begins X tech k (Fet depletion Up w l) nets h =
    first_of_any (BeginsBefore X (centre k)) (kind_items tech k (Fet depletion Up w l) nets)
    (record { on = refl; before = half_before l h.1 })
kind_begins Y tech k (Fet depletion Across w l) nets h =
    first_of_any (BeginsBefore Y (centre k)) (kind_items tech k (Fet depletion Across w l) nets)
    (record { on = refl; before = half_before l h.1 })
kind_begins Y tech k (Fet depletion Up w l) nets h =
    first_of_any (BeginsBefore Y (centre k)) (kind_items tech k (Fet depletion Up w l) nets)
    (record { on = refl; before = gate_before tech w h.0 })

run_begins : (axis : Axis) (along : Axis2) (owner net cross : ℕ) (width : ℤ) (low high : End) (at_low at_high : ℕ)
    → IsSize width → along ≡ crossing axis
    → BeginsBefore axis cross (item_running along (run_item owner net cross width low high at_low at_high))
run_begins X Up owner net cross width low high at_low at_high s e = record { on = refl; before = half_before width s }
run_begins Y Across owner net cross width low high at_low at_high s e =
    record { on = refl; before = half_before width s }
run_begins X Across owner net cross width low high at_low at_high s e = absurd cc
run_begins Y Up owner net cross width low high at_low at_high s e = absurd cc

-- ---- which wire has a cross coordinate

pub same_is : (a b : Axis2) → is_same_axis a b ≡ true → a ≡ b
same_is Across Across e = refl
same_is Up Up e = refl
same_is Across Up e = absurd cc
same_is Up Across e = absurd cc

-- wire k runs along an axis, after j others
pub record IsWireAfter (along : Axis2) (wires : List Wire) (j k : ℕ) : Type 0 where
  pub among : k < length wires
  pub along_is : (wire_at wires k).along ≡ along
  pub before : running along (take k wires) ≡ j

-- 1 for a wire along the axis, 0 for another
abbrev pub counted : Axis2 → Wire → ℕ
counted along wire = cond (is_same_axis wire.along along) 1 0

after_more : (along : Axis2) (w : Wire) (ws : List Wire) (j k c : ℕ) → counted along w ≡ c → IsWireAfter along ws j k
    → IsWireAfter along (w ∷ ws) (c + j) (suc k)
after_more along w ws j k c e h =
    let f : Wire → ℕ = counted along in
    let a : running along (take (suc k) (w ∷ ws)) ≡ f w + running along (take k ws) = sum_by-cons f w (take k ws) in
    let b = h.before in
    let n = h.among in
    record { among = omega arith; along_is = h.along_is; before = omega arith }

pub by_test : {P : Type 0} (b : Bool) → (b ≡ true → P) → (b ≡ false → P) → P
by_test true if_so if_not = if_so refl
by_test false if_so if_not = if_not refl

later_after : (along : Axis2) (w : Wire) (ws : List Wire) (j k : ℕ) → counted along w ≡ 0 → IsWireAfter along ws j k
    → IsWireAfter along (w ∷ ws) j (suc k)
later_after along w ws j k e h =
    let P : ℕ → Type 0 = λ i. IsWireAfter along (w ∷ ws) i (suc k) in
    let same : 0 + j ≡ j = omega arith in
    subst P same (after_more along w ws j k 0 e h)

counted_after : (along : Axis2) (w : Wire) (ws : List Wire) (j : ℕ) → is_same_axis w.along along ≡ true
    → j < suc (running along ws) → ((i : ℕ) → i < running along ws → (k : ℕ) × IsWireAfter along ws i k)
    → (k : ℕ) × IsWireAfter along (w ∷ ws) j k
counted_after along w ws zero e lt rest =
    (0, record { among = omega arith; along_is = same_is w.along along e; before = refl })
counted_after along w ws (suc i) e lt rest =
    let r = rest i (omega arith) in
    let one : counted along w ≡ 1 = ap (λ (t : Bool). cond t 1 0) e in
    let P : ℕ → Type 0 = λ n. IsWireAfter along (w ∷ ws) n (suc r.0) in
    let same : 1 + i ≡ suc i = omega arith in
    (suc r.0, subst P same (after_more along w ws i r.0 1 one r.1))

wire_after : (along : Axis2) (wires : List Wire) (j : ℕ) → j < running along wires
    → (k : ℕ) × IsWireAfter along wires j k
wire_after along [] j lt = absurd (omega arith)
wire_after along (w ∷ ws) j lt =
    let f : Wire → ℕ = counted along in
    let b : running along (w ∷ ws) ≡ f w + running along ws = sum_by-cons f w ws in
    by_test (is_same_axis w.along along)
    (λ e. let one : f w ≡ 1 = ap (λ (t : Bool). cond t 1 0) e in counted_after along w ws j e (omega arith)
    (λ i l. wire_after along ws i l))
    (λ e. let none : f w ≡ 0 = ap (λ (t : Bool). cond t 1 0) e in let r = wire_after along ws j (omega arith) in
    (suc r.0, later_after along w ws j r.0 none r.1))

-- ---- all items

wire_begins : (axis : Axis) (tech : Tech) (cell : Cell) (owner net cross : ℕ) (wire : Wire) → IsSize wire.width
    → wire.along ≡ crossing axis → Any (BeginsBefore axis cross) (wire_items tech cell owner net cross wire)
wire_begins axis tech cell owner net cross wire s e =
    layer_begins axis cross wire.layer _
    (run_begins axis wire.along owner net cross wire.width (low_end_of tech cell wire wire.low)
    (high_end_of tech cell wire wire.high) (contact_at cell wire.low) (contact_at cell wire.high) s e)

node_found : (axis : Axis) (tech : Tech) (cell : Cell) (nets : Nets) (k : ℕ) → IsSound tech cell
    → k < length cell.nodes
    → Any (BeginsBefore axis (centre k))
    (flat_map (items_of_node tech cell nets) (range_with_len 0 (length cell.nodes)))
node_found axis tech cell nets k s lt =
    let IsK : ℕ → Type 0 = λ i. i ≡ k in
    let P : ℕ → Type 0 = λ i. Any (BeginsBefore axis (centre k)) (items_of_node tech cell nets i) in
    any_flat_map IsK (BeginsBefore axis (centre k)) (items_of_node tech cell nets)
    (range_with_len 0 (length cell.nodes))
    (λ i e. subst P (sym e)
    (kind_begins axis tech k (node_at cell.nodes k).kind (nets_at nets.node k)
    (node_sound tech cell k s lt).kind))
    (any_range IsK 0 (length cell.nodes) k (omega arith) (omega arith) refl)

wire_found : (axis : Axis) (tech : Tech) (cell : Cell) (nets : Nets) (k : ℕ) → IsSound tech cell
    → k < length cell.wires → (wire_at cell.wires k).along ≡ crossing axis
    → Any (BeginsBefore axis (cross_of cell k))
    (flat_map (items_of_wire tech cell nets) (range_with_len 0 (length cell.wires)))
wire_found axis tech cell nets k s lt along =
    let IsK : ℕ → Type 0 = λ i. i ≡ k in
    let P : ℕ → Type 0 = λ i. Any (BeginsBefore axis (cross_of cell k)) (items_of_wire tech cell nets i) in
    any_flat_map IsK (BeginsBefore axis (cross_of cell k)) (items_of_wire tech cell nets)
    (range_with_len 0 (length cell.wires))
    (λ i e. subst P (sym e)
    (wire_begins axis tech cell (length cell.nodes + k) (slice_index nets.wire k) (cross_of cell k)
    (wire_at cell.wires k) (wire_sound tech cell k s lt).size along))
    (any_range IsK 0 (length cell.wires) k (omega arith) (omega arith) refl)

-- some item begins at each variable but the borders, or before it
pub items_begin : (axis : Axis) (tech : Tech) (cell : Cell) (nets : Nets) (v : ℕ) → IsSound tech cell → 2 ≤ v
    → v < variables_of axis cell → Any (BeginsBefore axis v) (item_list tech cell nets)
unfolding item_list
items_begin axis tech cell nets v s from lt =
    let nodes : List Item = flat_map (items_of_node tech cell nets) (range_with_len 0 (length cell.nodes)) in
    let wires : List Item = flat_map (items_of_wire tech cell nets) (range_with_len 0 (length cell.wires)) in
    let P : ℕ → Type 0 = λ u. Any (BeginsBefore axis u) (nodes ++ wires) in
    elim (cases_lt v (2 + length cell.nodes)) [
      | inl less ↦
          (let same : centre (v - 2) ≡ v = omega arith in subst P same
          (any_left (BeginsBefore axis (centre (v - 2))) nodes wires
          (node_found axis tech cell nets (v - 2) s (omega arith))))
      | inr more ↦
          let r = wire_after (crossing axis) cell.wires (v - (2 + length cell.nodes)) (omega arith) in
          let a = r.1.along_is in
          let b = r.1.before in
          let run : running (wire_at cell.wires r.0).along (take r.0 cell.wires)
          ≡ running (crossing axis) (take r.0 cell.wires) =
          ap (λ (x : Axis2). running x (take r.0 cell.wires)) a in
          let same : cross_of cell r.0 ≡ v = omega arith in
          subst P same
          (any_right (BeginsBefore axis (cross_of cell r.0)) nodes wires
          (wire_found axis tech cell nets r.0 s r.1.among a))
    ]
