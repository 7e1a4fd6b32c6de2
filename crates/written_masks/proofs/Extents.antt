-- Each item of a master has to be at least 1 long on both axes.
use Rattle.std.proofs.Common.{◌≡◌, ℕ, ℤ, pos, ◌+ℤ◌, ◌-ℤ◌, ◌*ℤ◌, ◌≤ℤ◌, Bool, true, false, List, [], ◌∷◌, length, map}
use Rattle.std.proofs.{Common.{cond, sym, subst, arith}, lemmas.Int.ints}
use Rattle.std.specs.{Prelude.neg_ℤ, List.{flat_map, range_with_len, AllByRecursion}}
use Rattle.lam_geom.specs.declared.boxes.Axis.{Axis, TheVariants.{X, Y}}
use Rattle.rule_table.specs.declared.{technology.Tech.Tech, classes.{Class.Class, Layer.{Layer, TheVariants.Diffusion}}}
use Rattle.rule_table.specs.{declared.classes.Layer.TheVariants.{Poly, Metal}, Bounds.IsSize, Technology.numbers_of}
use Rattle.rule_table.{specs.Technology.pad_of, proofs.Widths.{pad_bounds, pad_even}}
use Rattle.sym_items.specs.{declared.items.{Item.Item, Items.Items}, Transposed.item_along}
use Rattle.cell_model.specs.declared.cell.{Axis2.{Axis2, TheVariants.{Across, Up}}, NodeKind.NodeKind}
use Rattle.cell_model.specs.declared.cell.{NodeKind.TheVariants.{Joint, Contact, Buried, Fet}, NodeNets.NodeNets}
use Rattle.cell_model.specs.declared.cell.{Wire.Wire, Nets.Nets, Cell.Cell}
use Rattle.cell_model.specs.{Wiring.buried_pad, Sound.{IsKind, IsSound}}
use Rattle.expand.specs.{declared.master.Master.Master, Masters.IsMaster, Variables.half, NodeItems.item_running}
use Rattle.expand.specs.NodeItems.{on_layer, box_round, square_round, standing_at, channel_items, kind_items}
use Rattle.expand.specs.{WireItems.{low_end_of, high_end_of, contact_at, run_item, wire_items}, Items.items_of_node}
use Rattle.expand.specs.Items.{items_of_wire, item_list}
use Rattle.expand.proofs.{Among.{sound_numbers, buried_size}, Cells.{node_sound, wire_sound}}
use Rattle.list_facts.proofs.Elements.{all_append, all_flat, all_numbers}

pub record HasExtents (i : Item) : Type 0 where
  pub x : pos 1 ≤ℤ i.least_x
  pub y : pos 1 ≤ℤ i.least_y

-- along an axis
pub long_along : (axis : Axis) (i : Item) → HasExtents i → pos 1 ≤ℤ (item_along axis i).least_x
long_along X i h = h.x
long_along Y i h = h.y

-- ---- boxes of nodes

half_of : (z : ℤ) → IsSize z → pos 1 ≤ℤ half z
half_of z h =
    let low = h.low in
    let even : (pos 2 *ℤ half z) ≡ z = h.even in
    omega (arith, ints)

half_pad : (tech : Tech) → pos 1 ≤ℤ half (pad_of tech)
half_pad tech =
    let even : (pos 2 *ℤ half (pad_of tech)) ≡ pad_of tech = pad_even (numbers_of tech) (sound_numbers tech) in
    let low : pos 2 ≤ℤ pad_of tech = (pad_bounds (numbers_of tech) (sound_numbers tech)).0 in
    omega (arith, ints)

longer : (z e : ℤ) → pos 1 ≤ℤ z → pos 0 ≤ℤ e → pos 1 ≤ℤ (z +ℤ e)
longer z e h k = omega (arith, ints)

doubled : (z : ℤ) → pos 1 ≤ℤ z → pos 1 ≤ℤ (z -ℤ neg_ℤ z)
doubled z h = omega (arith, ints)

round_long : (k : ℕ) (class : Class) (net : ℕ) (x y : ℤ) → pos 1 ≤ℤ x → pos 1 ≤ℤ y
    → HasExtents (box_round k class net x y)
round_long k class net x y hx hy = record { x = doubled x hx; y = doubled y hy }

layer_long : (layer : Layer) (i : Item) → HasExtents i → AllByRecursion HasExtents (on_layer layer i)
layer_long Metal i h = (record { x = h.x; y = h.y }, tt)
layer_long Poly i h = (record { x = h.x; y = h.y }, tt)
layer_long Diffusion i h = (record { x = h.x; y = h.y }, (record { x = h.x; y = h.y }, tt))

standing_long : (k : ℕ) (i : Item) → HasExtents i → HasExtents (standing_at k i)
standing_long k i h = record { x = h.x; y = h.y }

running_long : (gate : Axis2) (is : List Item) → AllByRecursion HasExtents is
    → AllByRecursion HasExtents (map (item_running gate) is)
running_long gate [] h = tt
running_long Across (i ∷ is) h = (h.0, running_long Across is h.1)
running_long Up (i ∷ is) h = (record { x = h.0.y; y = h.0.x }, running_long Up is h.1)

-- the pieces of diffusion below and above a channel
piece_below : (y e : ℤ) → pos 1 ≤ℤ e → pos 1 ≤ℤ (neg_ℤ y -ℤ neg_ℤ (y +ℤ e))
piece_below y e h = omega (arith, ints)

piece_above : (y e : ℤ) → pos 1 ≤ℤ e → pos 1 ≤ℤ ((y +ℤ e) -ℤ y)
piece_above y e h = omega (arith, ints)

implant_long : (depletion : Bool) (i : Item) → HasExtents i → AllByRecursion HasExtents (cond depletion (i ∷ []) [])
implant_long true i h = (h, tt)
implant_long false i h = tt

channel_long : (tech : Tech) (k : ℕ) (nets : NodeNets) (depletion : Bool) (x y : ℤ) → pos 1 ≤ℤ x → pos 1 ≤ℤ y
    → AllByRecursion HasExtents (channel_items tech k nets depletion x y)
channel_long tech k nets depletion x y hx hy =
    let n = sound_numbers tech in
    let r = n.in_range in
    let apart = r.spacing_poly_diffusion.0 in
    let reaches = n.diffusion_reaches in
    let past : pos 1 ≤ℤ (numbers_of tech).extension_diffusion = omega (arith, ints, apart, reaches) in
    let poly = longer x _ hx r.extension_poly.0 in
    let diffusion = longer y _ hy r.extension_diffusion.0 in
    let implant_x = longer x _ hx r.extension_implant.0 in
    let implant_y = longer y _ hy r.extension_implant.0 in (
      round_long k _ nets.main _ _ poly hy,
      (
        round_long k _ nets.low _ _ hx diffusion,
        (
          record { x = doubled x hx; y = piece_below y _ past },
          (
            record { x = doubled x hx; y = piece_above y _ past },
            (
              round_long k _ nets.main _ _ hx hy,
              implant_long depletion _
                  (round_long k _ nets.main _ _ implant_x implant_y),
            ),
          ),
        ),
      ),
    )

kind_long : (tech : Tech) (k : ℕ) (kind : NodeKind) (nets : NodeNets) → IsKind tech kind
    → AllByRecursion HasExtents (kind_items tech k kind nets)
kind_long tech k (Joint layer width) nets h =
    let s = half_of width h.0 in
    layer_long layer _ (round_long k _ nets.main _ _ s s)
kind_long tech k (Contact lower) nets h =
    let pad = half_pad tech in
    let cut = half_of _ (sound_numbers tech).cut_size in (
      round_long k _ nets.main _ _ pad
          pad,
      (round_long k _ nets.main _ _ cut cut, layer_long lower _ (round_long k _ nets.main _ _ pad pad)),
    )
kind_long tech k Buried nets h =
    let pad = half_of (buried_pad tech) (buried_size tech) in
    let window = longer _ _ pad (sound_numbers tech).in_range.extension_buried.0 in
    let square : (class : Class)
    → HasExtents (standing_at k (square_round k class nets.main (half (buried_pad tech)))) =
    λ class. standing_long k _ (round_long k class nets.main _ _ pad pad) in
    (square _, (square _, (square _, (standing_long k _ (round_long k _ nets.main _ _ window window), tt))))
kind_long tech k (Fet depletion gate w l) nets h =
    running_long gate (channel_items tech k nets depletion (half w) (half l))
    (channel_long tech k nets depletion _ _ (half_of w h.0) (half_of l h.1))

-- ---- wires

turned_long : (along : Axis2) (i : Item) → HasExtents i → HasExtents (item_running along i)
turned_long Across i h = h
turned_long Up i h = record { x = h.y; y = h.x }

wire_long : (tech : Tech) (cell : Cell) (owner net cross : ℕ) (wire : Wire) → IsSize wire.width
    → AllByRecursion HasExtents (wire_items tech cell owner net cross wire)
wire_long tech cell owner net cross wire s =
    let low = s.low in
    let one : pos 1 ≤ℤ wire.width = omega (arith, ints) in
    let run : Item = run_item owner net cross wire.width (low_end_of tech cell wire wire.low)
    (high_end_of tech cell wire wire.high) (contact_at cell wire.low) (contact_at cell wire.high) in
    layer_long wire.layer (item_running wire.along run) (turned_long wire.along run (record { x = one; y = one }))

-- ---- all items

list_long : (tech : Tech) (cell : Cell) (nets : Nets) → IsSound tech cell
    → AllByRecursion HasExtents (item_list tech cell nets)
unfolding item_list
list_long tech cell nets s =
    let n : ℕ = length cell.nodes in
    all_append HasExtents (flat_map (items_of_node tech cell nets) (range_with_len 0 n))
    (flat_map (items_of_wire tech cell nets) (range_with_len 0 (length cell.wires)))
    (all_flat HasExtents (items_of_node tech cell nets) (range_with_len 0 n)
    (all_numbers (λ k. AllByRecursion HasExtents (items_of_node tech cell nets k)) 0 n
    (λ k le lt. kind_long tech k _ _ (node_sound tech cell k s (omega arith)).kind)))
    (all_flat HasExtents (items_of_wire tech cell nets) (range_with_len 0 (length cell.wires))
    (all_numbers (λ k. AllByRecursion HasExtents (items_of_wire tech cell nets k)) 0 (length cell.wires)
    (λ k le lt. wire_long tech cell _ _ _ _ (wire_sound tech cell k s (omega arith)).size)))

pub items_long : (tech : Tech) (master : Master) → IsMaster tech master → AllByRecursion HasExtents master.items.list
items_long tech master m =
    let Long : Items → Type 0 = λ (items : Items). AllByRecursion HasExtents items.list in
    subst Long (sym m.items.are) (list_long tech master.cell m.items.nets m.sound)
