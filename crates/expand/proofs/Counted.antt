-- How many items a cell has.
use Rattle.std.proofs.Common.{◌≡◌, ℕ, suc, ◌+◌, ◌<◌, ◌≤◌, true, false, List, [], ◌∷◌, length, get_or, zero-add, refl}
use Rattle.std.proofs.{Common.{ap, ◌∙◌, arith}, lemmas.List.{length-append, Sums.{sum_by-cons, sum_by-le}}}
use Rattle.std.specs.{List.{flat_map, range_with_len, sum_by}, Prelude.slice_index}
use Rattle.rule_table.specs.declared.{technology.Tech.Tech, classes.{Class.TheVariants.M, Layer.Layer}}
use Rattle.rule_table.specs.{declared.classes.Layer.TheVariants.{Diffusion, Poly, Metal}, Technology.pad_of}
use Rattle.sym_items.specs.declared.items.Item.{Item}
use Rattle.cell_model.specs.declared.cell.NodeKind.{NodeKind, TheVariants.{Joint, Contact, Buried, Fet}}
use Rattle.cell_model.specs.{declared.cell.{NodeNets.NodeNets, Wire.Wire, Nets.Nets, Cell.Cell}, Counts.layer_items}
use Rattle.cell_model.specs.Counts.{kind_items as kind_count, node_items, wire_items as wire_count, items_in}
use Rattle.cell_model.specs.Sound.{IsLight, node_at, no_node, wire_at, no_wire}
use Rattle.expand.specs.{Variables.{half, cross_of}, WireItems.wire_items, NodeItems.{on_layer, square_round}}
use Rattle.expand.specs.{NodeItems.kind_items, Items.{nets_at, items_of_node, items_of_wire, item_list}}

layer_counted : (layer : Layer) (i : Item) → length (on_layer layer i) ≡ layer_items layer
layer_counted Metal i = refl
layer_counted Poly i = refl
layer_counted Diffusion i = refl

kind_counted : (tech : Tech) (k : ℕ) (kind : NodeKind) (nets : NodeNets)
    → length (kind_items tech k kind nets) ≡ kind_count kind
kind_counted tech k (Joint layer width) nets = layer_counted layer _
kind_counted tech k (Contact lower) nets = let e =
    layer_counted lower (square_round k M nets.main (half (pad_of tech))) in omega arith
kind_counted tech k Buried nets = refl
kind_counted tech k (Fet true gate w l) nets = refl
kind_counted tech k (Fet false gate w l) nets = refl

wire_counted : (tech : Tech) (cell : Cell) (owner net cross : ℕ) (wire : Wire)
    → length (wire_items tech cell owner net cross wire) ≡ wire_count wire
wire_counted tech cell owner net cross wire =
    layer_counted wire.layer _

-- the pieces of numbered elements, each with its count
pub pieces_counted : {X Y : Type 0} (f : ℕ → List Y) (count : X → ℕ) (d : X) (a : ℕ) (xs : List X)
    → ((k : ℕ) → k < length xs → length (f (a + k)) ≡ count (get_or xs k d))
    → length (flat_map f (range_with_len a (length xs))) ≡ sum_by count xs
pieces_counted f count d a [] each = refl
pieces_counted f count d a (x ∷ xs) each =
    let at : a + 0 ≡ a = omega arith in
    let own : length (f a) ≡ count x = ap (λ n. length (f n)) (omega arith) ∙ each 0 (omega arith) in
    let rest : length (flat_map f (range_with_len (a + 1) (length xs))) ≡ sum_by count xs =
    pieces_counted f count d (a + 1) xs (λ k lt. ap (λ n. length (f n)) (omega arith) ∙ each (suc k) (omega arith)) in
    let whole : sum_by count (x ∷ xs) ≡ count x + sum_by count xs = sum_by-cons count x xs in
    let both = length-append (f a) (flat_map f (range_with_len (a + 1) (length xs))) in
    omega (arith, own, rest, whole, both)

pub list_counted : (tech : Tech) (cell : Cell) (nets : Nets) → length (item_list tech cell nets) ≡ items_in cell
unfolding item_list items_in
list_counted tech cell nets =
    let nodes : List Item = flat_map (items_of_node tech cell nets) (range_with_len 0 (length cell.nodes)) in
    let wires : List Item = flat_map (items_of_wire tech cell nets) (range_with_len 0 (length cell.wires)) in
    let a : length nodes ≡ sum_by node_items cell.nodes =
    pieces_counted (items_of_node tech cell nets) node_items no_node 0 cell.nodes
    (λ k lt. ap (λ n. length (items_of_node tech cell nets n)) (zero-add k)
    ∙ kind_counted tech k (node_at cell.nodes k).kind (nets_at nets.node k)) in
    let b : length wires ≡ sum_by wire_count cell.wires =
    pieces_counted (items_of_wire tech cell nets) wire_count no_wire 0 cell.wires
    (λ k lt. ap (λ n. length (items_of_wire tech cell nets n)) (zero-add k)
    ∙ wire_counted tech cell (length cell.nodes + k) (slice_index nets.wire k) (cross_of cell k)
    (wire_at cell.wires k)) in
    omega (arith, length-append nodes wires, a, b)

kind_few : (kind : NodeKind) → kind_count kind ≤ 6
kind_few (Joint Metal width) = omega arith
kind_few (Joint Poly width) = omega arith
kind_few (Joint Diffusion width) = omega arith
kind_few (Contact Metal) = omega arith
kind_few (Contact Poly) = omega arith
kind_few (Contact Diffusion) = omega arith
kind_few Buried = omega arith
kind_few (Fet true gate w l) = omega arith
kind_few (Fet false gate w l) = omega arith

layer_few : (layer : Layer) → layer_items layer ≤ 2
layer_few Metal = omega arith
layer_few Poly = omega arith
layer_few Diffusion = omega arith

-- a light cell has few items
pub items_few : (cell : Cell) → IsLight cell → items_in cell < 4294967296
unfolding items_in
items_few cell light =
    let l : length cell.nodes + length cell.wires + length cell.limits ≤ 65536 = light in
    let a = sum_by-le node_items 6 cell.nodes (λ k d lt. kind_few (get_or cell.nodes k d).kind) in
    let b = sum_by-le wire_count 2 cell.wires (λ k d lt. layer_few (get_or cell.wires k d).layer) in
    omega (arith, a, b, l)
