-- Under the numbers that the program ships with, the items of plain cells are small.
use Rattle.std.proofs.{Common.{◌≡◌, ℕ, ◌+◌, ℤ, pos, neg_ℤ, ◌≤ℤ◌, length, sym, subst, arith}, lemmas.Int.ints}
use Rattle.std.specs.{Prelude.{slice_index, flat_map}, List.{AllByRecursion, range_with_len}}
use Rattle.list_facts.proofs.Elements.{all_append, all_flat, all_numbers, all_at}
use Rattle.lam_geom.specs.declared.boxes.Axis.{Axis, TheVariants.{X, Y}}
use Rattle.rule_table.specs.declared.classes.{Class.{Class, TheVariants.{M, C}}, Layer.{Layer, TheVariants.Diffusion}}
use Rattle.rule_table.specs.declared.{classes.Layer.TheVariants.{Poly, Metal}, keys.Numbers.Numbers}
use Rattle.rule_table.specs.declared.technology.Tech.{Tech}
use Rattle.rule_table.specs.{Spacing.{width_in, pad_in}, Technology.{numbers_of, width_of, pad_of, shipped_numbers}}
use Rattle.cell_model.specs.declared.cell.{Axis2.{Axis2, TheVariants.{Across, Up}}, NodeKind.NodeKind}
use Rattle.cell_model.specs.declared.cell.{NodeKind.TheVariants.{Joint, Contact, Buried, Fet}, NodeNets.NodeNets}
use Rattle.cell_model.specs.declared.cell.{Nets.Nets, WireEnd.WireEnd, Wire.Wire, Cell.Cell}
use Rattle.cell_model.specs.Sound.{node_at, no_node, wire_at, no_wire, IsEnd, IsSound}
use Rattle.cell_model.specs.declared.cell.WireEnd.TheVariants as ends
use Rattle.sym_items.specs.{declared.items.{End.End, Item.Item, Items.Items}, Transposed.item_along}
use Rattle.expand.specs.{Items.{nets_at, items_of_node, items_of_wire, item_list, AreItems}, NodeItems.item_running}
use Rattle.expand.specs.{NodeItems.{on_layer, box_round, kind_items}, Variables.{half, cross_of}, WireItems.reach}
use Rattle.expand.specs.WireItems.{reach_at, low_end_of, high_end_of, contact_at, run_item, wire_items}
use Rattle.expand.proofs.Cells.{wire_sound}
use Rattle.made_designs.proofs.Plain.{IsPlainKind, IsPlainNode, IsPlainWire, IsPlain}

abbrev pub IsShipped : Tech → Type 0
IsShipped tech = numbers_of tech ≡ shipped_numbers

-- from 0 to 4
abbrev IsFour : ℤ → Type 0
IsFour z = (pos 0 ≤ℤ z) × (z ≤ℤ pos 4)

-- the ends of an item on an axis lie within 8 of their variables, and so long it is at least
pub record IsTightSpan (low high : End) (least : ℤ) : Type 0 where
  pub low_above : neg_ℤ (pos 8) ≤ℤ low.off
  pub low_below : low.off ≤ℤ pos 8
  pub high_above : neg_ℤ (pos 8) ≤ℤ high.off
  pub high_below : high.off ≤ℤ pos 8
  pub least_below : least ≤ℤ pos 8

pub record IsTight (i : Item) : Type 0 where
  pub x : IsTightSpan i.xl i.xh i.least_x
  pub y : IsTightSpan i.yl i.yh i.least_y

pub tight_along : (axis : Axis) (i : Item) → IsTight i
    → IsTightSpan (item_along axis i).xl (item_along axis i).xh (item_along axis i).least_x
tight_along X i h = h.x
tight_along Y i h = h.y

-- ---- the numbers

width_four : (layer : Layer) → IsFour (half (width_in shipped_numbers layer))
    × (width_in shipped_numbers layer ≤ℤ pos 8)
width_four Diffusion = ((omega (arith, ints), omega (arith, ints)), omega (arith, ints))
width_four Poly = ((omega (arith, ints), omega (arith, ints)), omega (arith, ints))
width_four Metal = ((omega (arith, ints), omega (arith, ints)), omega (arith, ints))

-- the width of a layer, and half of it
least_width : (tech : Tech) (layer : Layer) (width : ℤ) → IsShipped tech → width ≡ width_of tech layer
    → IsFour (half width) × (width ≤ℤ pos 8)
least_width tech layer width shipped is =
    let W : ℤ → Type 0 = λ z. IsFour (half z) × (z ≤ℤ pos 8) in
    subst W (sym is) (subst (λ (n : Numbers). W (width_in n layer)) (sym shipped) (width_four layer))

pad_four : IsFour (half (pad_in shipped_numbers))
unfolding pad_in
pad_four = (omega (arith, ints), omega (arith, ints))

half_pad : (tech : Tech) → IsShipped tech → IsFour (half (pad_of tech))
half_pad tech shipped = subst (λ (n : Numbers). IsFour (half (pad_in n))) (sym shipped) pad_four

cut_four : IsFour (half shipped_numbers.cut_size)
cut_four = (omega (arith, ints), omega (arith, ints))

half_cut : (tech : Tech) → IsShipped tech → IsFour (half (numbers_of tech).cut_size)
half_cut tech shipped = subst (λ (n : Numbers). IsFour (half n.cut_size)) (sym shipped) cut_four

-- ---- nodes

round_tight : (k : ℕ) (class : Class) (net : ℕ) (x y : ℤ) → IsFour x → IsFour y → IsTight (box_round k class net x y)
round_tight k class net x y h g =
    let a = h.0 in
    let b = h.1 in
    let c = g.0 in
    let d = g.1 in
    record {
      x = record {
        low_above = omega (arith, ints, b);
        low_below = omega (arith, ints, a);
        high_above = omega (arith, ints, a);
        high_below = omega (arith, ints, b);
        least_below =
            omega (arith, ints, b);
      };
      y = record {
        low_above = omega (arith, ints, d);
        low_below = omega (arith, ints, c);
        high_above = omega (arith, ints, c);
        high_below = omega (arith, ints, d);
        least_below =
            omega (arith, ints, d);
      };
    }

-- the class of an item does not matter
layer_tight : (layer : Layer) (i : Item) → IsTight i → AllByRecursion IsTight (on_layer layer i)
layer_tight Metal i h = (record { x = h.x; y = h.y }, tt)
layer_tight Poly i h = (record { x = h.x; y = h.y }, tt)
layer_tight Diffusion i h = (record { x = h.x; y = h.y }, (record { x = h.x; y = h.y }, tt))

kind_tight : (tech : Tech) (k : ℕ) (kind : NodeKind) (nets : NodeNets) → IsShipped tech → IsPlainKind tech kind
    → AllByRecursion IsTight (kind_items tech k kind nets)
kind_tight tech k (Joint layer width) nets shipped plain =
    let four = (least_width tech layer width shipped plain).0 in
    layer_tight layer (box_round k M nets.main (half width) (half width))
    (round_tight k M nets.main (half width) (half width) four four)
kind_tight tech k (Contact lower) nets shipped plain =
    let pad = half_pad tech shipped in
    let cut = half_cut tech shipped in
    let square = round_tight k M nets.main (half (pad_of tech)) (half (pad_of tech)) pad pad in (
      square,
      (
        round_tight k C nets.main (half (numbers_of tech).cut_size) (half (numbers_of tech).cut_size) cut
            cut,
        layer_tight lower (box_round k M nets.main (half (pad_of tech)) (half (pad_of tech))) square,
      ),
    )
kind_tight tech k Buried nets shipped plain = absurd plain
kind_tight tech k (Fet depletion gate w l) nets shipped plain = absurd plain

-- ---- wires

reach_four : (tech : Tech) (kind : NodeKind) (width : ℤ) (along : Axis2) → IsPlainKind tech kind → IsFour (half width)
    → IsFour (reach tech kind width along)
reach_four tech (Joint layer own) width along plain four = four
reach_four tech (Contact lower) width along plain four = four
reach_four tech Buried width along plain four = absurd plain
reach_four tech (Fet depletion gate w l) width along plain four = absurd plain

end_four : (tech : Tech) (cell : Cell) (wire : Wire) (end : WireEnd) → AllByRecursion (IsPlainNode tech) cell.nodes
    → IsEnd cell end → IsFour (half wire.width) → IsFour (reach_at tech cell wire end)
end_four tech cell wire (ends.Node j) plain lt four =
    reach_four tech (node_at cell.nodes j).kind wire.width wire.along
    (all_at (IsPlainNode tech) cell.nodes no_node j plain lt) four
end_four tech cell wire (ends.Port j) plain lt four = (omega (arith, ints), omega (arith, ints))

running_tight : (along : Axis2) (i : Item) → IsTight i → IsTight (item_running along i)
running_tight Across i h = h
running_tight Up i h = record { x = h.y; y = h.x }

wire_tight : (tech : Tech) (cell : Cell) (owner net cross : ℕ) (wire : Wire) → IsShipped tech
    → AllByRecursion (IsPlainNode tech) cell.nodes → IsPlainWire tech wire → IsEnd cell wire.low
    → IsEnd cell wire.high
    → AllByRecursion IsTight (wire_items tech cell owner net cross wire)
wire_tight tech cell owner net cross wire shipped nodes plain from to =
    let width = least_width tech wire.layer wire.width shipped plain in
    let four = width.0 in
    let wide = width.1 in
    let low = end_four tech cell wire wire.low nodes from four in
    let high = end_four tech cell wire wire.high nodes to four in
    let low_0 = low.0 in
    let low_1 = low.1 in
    let high_0 = high.0 in
    let high_1 = high.1 in
    let four_0 = four.0 in
    let four_1 = four.1 in
    let run : Item = run_item owner net cross wire.width (low_end_of tech cell wire wire.low)
    (high_end_of tech cell wire wire.high) (contact_at cell wire.low) (contact_at cell wire.high) in
    let tight : IsTight run = record {
      x = record {
        low_above = omega (arith, ints, low_1);
        low_below = omega (arith, ints, low_0);
        high_above = omega (arith, ints, high_0);
        high_below = omega (arith, ints, high_1);
        least_below = wide;
      };
      y = record {
        low_above = omega (arith, ints, four_1);
        low_below = omega (arith, ints, four_0);
        high_above = omega (arith, ints, four_0);
        high_below = omega (arith, ints, four_1);
        least_below = wide;
      };
    } in
    layer_tight wire.layer (item_running wire.along run) (running_tight wire.along run tight)

-- ---- all items of a cell

list_tight : (tech : Tech) (cell : Cell) (nets : Nets) (most_nodes most_wires : ℕ) → IsShipped tech
    → IsSound tech cell → IsPlain tech most_nodes most_wires cell → AllByRecursion IsTight (item_list tech cell nets)
unfolding item_list
list_tight tech cell nets most_nodes most_wires shipped sound plain =
    let n : ℕ = length cell.nodes in
    let w : ℕ = length cell.wires in
    all_append IsTight (flat_map (items_of_node tech cell nets) (range_with_len 0 n))
    (flat_map (items_of_wire tech cell nets) (range_with_len 0 w))
    (all_flat IsTight (items_of_node tech cell nets) (range_with_len 0 n)
    (all_numbers (λ k. AllByRecursion IsTight (items_of_node tech cell nets k)) 0 n
    (λ k le lt. kind_tight tech k (node_at cell.nodes k).kind (nets_at nets.node k) shipped
    (all_at (IsPlainNode tech) cell.nodes no_node k plain.nodes (omega (arith, lt))))))
    (all_flat IsTight (items_of_wire tech cell nets) (range_with_len 0 w)
    (all_numbers (λ k. AllByRecursion IsTight (items_of_wire tech cell nets k)) 0 w
    (λ k le lt. (
    let sound_wire = wire_sound tech cell k sound (omega (arith, lt)) in
    wire_tight tech cell (n + k) (slice_index nets.wire k) (cross_of cell k) (wire_at cell.wires k) shipped
    plain.nodes (all_at (IsPlainWire tech) cell.wires no_wire k plain.wires (omega (arith, lt))) sound_wire.low
    sound_wire.high))))

pub items_tight : (tech : Tech) (cell : Cell) (items : Items) (most_nodes most_wires : ℕ) → IsShipped tech
    → IsSound tech cell → IsPlain tech most_nodes most_wires cell → AreItems tech cell items
    → AllByRecursion IsTight items.list
items_tight tech cell items most_nodes most_wires shipped sound plain are =
    subst (λ (i : Items). AllByRecursion IsTight i.list) (sym are.are)
    (list_tight tech cell are.nets most_nodes most_wires shipped sound plain)
