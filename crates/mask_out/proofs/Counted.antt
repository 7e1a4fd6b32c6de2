-- How many mask boxes the items of a cell are.
use Rattle.std.proofs.Common.{◌≡◌, ℕ, ◌+◌, Bool, true, false, cond, List, [], ◌∷◌, ◌++◌, length, zero-add, refl, ap}
use Rattle.std.proofs.Common.{◌∙◌, arith}
use Rattle.std.proofs.lemmas.List.{length-append, length-map, Elements.filter-append, Sums.sum_by-cons}
use Rattle.std.specs.{Prelude.is_some, List.{filter, flat_map, range_with_len, sum_by, count_by}}
use Rattle.lam_geom.specs.declared.boxes.MaskLayer.{MaskLayer}
use Rattle.rule_table.specs.declared.classes.{Class.{Class, TheVariants.{M, P, Dc, Dm, C, I, G, B}}, Layer.Layer}
use Rattle.rule_table.specs.declared.{classes.Layer.TheVariants.{Diffusion, Poly, Metal}, technology.Tech.Tech}
use Rattle.rule_table.specs.Technology.{pad_of}
use Rattle.sym_items.specs.declared.items.{Item.Item, Coords.Coords}
use Rattle.cell_model.specs.declared.cell.{Axis2.TheVariants.{Across, Up}, NodeKind.{NodeKind, TheVariants.Joint}}
use Rattle.cell_model.specs.declared.cell.{NodeKind.TheVariants.{Contact, Buried, Fet}, NodeNets.NodeNets, Wire.Wire}
use Rattle.cell_model.specs.{declared.cell.{Nets.Nets, Cell.Cell}, Counts.{kind_boxes, node_boxes, boxes_in}}
use Rattle.cell_model.specs.Sound.{node_at, no_node, wire_at, no_wire}
use Rattle.expand.specs.{Variables.half, NodeItems.{on_layer, square_round, kind_items}, Items.{nets_at, items_of_node}}
use Rattle.expand.{specs.Items.{items_of_wire, item_list}, proofs.Counted.pieces_counted}
use Rattle.mask_out.specs.Masks.{layer_drawn, is_drawn, masks_on, mask_layers, masks_in}

-- ---- the boxes of each layer together

-- whether an item is a box of some layer
abbrev has_box : Class → Bool
has_box class = is_some (layer_drawn class)

abbrev drawn_of : List Item → List Item
drawn_of items = filter (λ (i : Item). has_box i.class) items

-- on how many of some layers items of a class are boxes
abbrev layers_with : Class → List MaskLayer → ℕ
layers_with class layers = count_by (λ (layer : MaskLayer). is_drawn layer class) layers

one_layer : (class : Class) → layers_with class mask_layers ≡ cond (has_box class) 1 0
one_layer M = refl
one_layer P = refl
one_layer Dc = refl
one_layer Dm = refl
one_layer C = refl
one_layer I = refl
one_layer G = refl
one_layer B = refl

one_more : {A : Type 0} (q : Bool) (x : A) (xs : List A) → length (cond q (x ∷ xs) xs) ≡ cond q 1 0 + length xs
one_more true x xs = omega arith
one_more false x xs = omega arith

-- the masks of a layer with one item more, and those of some layers
layer_more : (c : Coords) (x : Item) (xs : List Item) (layer : MaskLayer)
    → length (masks_on c (x ∷ xs) layer) ≡ cond (is_drawn layer x.class) 1 0 + length (masks_on c xs layer)
layer_more c x xs layer =
    let rest : List Item = filter (λ (i : Item). is_drawn layer i.class) xs in
    let all : length (masks_on c (x ∷ xs) layer) ≡ length (cond (is_drawn layer x.class) (x ∷ rest) rest) =
    length-map (cond (is_drawn layer x.class) (x ∷ rest) rest) _ in
    let others : length (masks_on c xs layer) ≡ length rest = length-map rest _ in
    omega (arith, all, others, one_more (is_drawn layer x.class) x rest)

layers_more : (c : Coords) (x : Item) (xs : List Item) (layers : List MaskLayer)
    → length (flat_map (masks_on c (x ∷ xs)) layers) ≡ layers_with x.class layers + length
    (flat_map (masks_on c xs) layers)
layers_more c x xs [] = refl
layers_more c x xs (layer ∷ layers) =
    let now = length-append (masks_on c (x ∷ xs) layer) (flat_map (masks_on c (x ∷ xs)) layers) in
    let before = length-append (masks_on c xs layer) (flat_map (masks_on c xs) layers) in
    let counted = sum_by-cons (λ (l : MaskLayer). cond (is_drawn l x.class) 1 0) layer layers in
    omega (arith, now, before, counted, layer_more c x xs layer, layers_more c x xs layers)

masks_counted : (c : Coords) (items : List Item) → length (masks_in c items) ≡ length (drawn_of items)
unfolding masks_in
masks_counted c [] = refl
masks_counted c (x ∷ xs) =
    omega (
      arith,
      layers_more c x xs mask_layers,
      one_layer x.class,
      one_more (has_box x.class) x
          (drawn_of xs),
      masks_counted c xs,
    )

-- ---- of the nodes and wires

layer_boxes : (layer : Layer) (i : Item) → length (drawn_of (on_layer layer i)) ≡ 1
layer_boxes Metal i = refl
layer_boxes Poly i = refl
layer_boxes Diffusion i = refl

kind_drawn : (tech : Tech) (k : ℕ) (kind : NodeKind) (nets : NodeNets)
    → length (drawn_of (kind_items tech k kind nets)) ≡ kind_boxes kind
kind_drawn tech k (Joint layer width) nets = layer_boxes layer _
kind_drawn tech k (Contact lower) nets = let e =
    layer_boxes lower (square_round k M nets.main (half (pad_of tech))) in omega arith
kind_drawn tech k Buried nets = refl
kind_drawn tech k (Fet true Across w l) nets = refl
kind_drawn tech k (Fet true Up w l) nets = refl
kind_drawn tech k (Fet false Across w l) nets = refl
kind_drawn tech k (Fet false Up w l) nets = refl

wires_counted : {X : Type 0} (xs : List X) → sum_by (λ (x : X). 1) xs ≡ length xs
wires_counted [] = refl
wires_counted (x ∷ xs) = omega (arith, sum_by-cons (λ _. 1) x xs, wires_counted xs)

-- the boxes of the pieces
drawn_pieces : (f : ℕ → List Item) (ks : List ℕ) → drawn_of (flat_map f ks) ≡ flat_map (λ k. drawn_of (f k)) ks
drawn_pieces f [] = refl
drawn_pieces f (k ∷ ks) = filter-append (λ (i : Item). has_box i.class) (f k) (flat_map f ks)
    ∙ ap (λ zs. drawn_of (f k) ++ zs) (drawn_pieces f ks)

items_counted : (tech : Tech) (cell : Cell) (nets : Nets) → length (drawn_of (item_list tech cell nets)) ≡ boxes_in cell
unfolding item_list boxes_in
items_counted tech cell nets =
    let node = items_of_node tech cell nets in
    let wire = items_of_wire tech cell nets in
    let nodes : List Item = flat_map node (range_with_len 0 (length cell.nodes)) in
    let wires : List Item = flat_map wire (range_with_len 0 (length cell.wires)) in
    let a : length (drawn_of nodes) ≡ sum_by node_boxes cell.nodes =
    ap length (drawn_pieces node (range_with_len 0 (length cell.nodes)))
    ∙ pieces_counted (λ k. drawn_of (node k)) node_boxes no_node 0 cell.nodes
    (λ k lt. ap (λ n. length (drawn_of (node n))) (zero-add k)
    ∙ kind_drawn tech k (node_at cell.nodes k).kind (nets_at nets.node k)) in
    let b : length (drawn_of wires) ≡ sum_by (λ (w : Wire). 1) cell.wires =
    ap length (drawn_pieces wire (range_with_len 0 (length cell.wires)))
    ∙ pieces_counted (λ k. drawn_of (wire k)) (λ (w : Wire). 1) no_wire 0 cell.wires
    (λ k lt. ap (λ n. length (drawn_of (wire n))) (zero-add k) ∙ layer_boxes (wire_at cell.wires k).layer _) in
    let both : length (drawn_of (nodes ++ wires)) ≡ length (drawn_of nodes) + length (drawn_of wires) =
    ap length (filter-append (λ (i : Item). has_box i.class) nodes wires)
    ∙ length-append (drawn_of nodes) (drawn_of wires) in
    omega (arith, both, a, b, wires_counted cell.wires)

pub boxes_counted : (tech : Tech) (cell : Cell) (nets : Nets) (c : Coords)
    → length (masks_in c (item_list tech cell nets)) ≡ boxes_in cell
boxes_counted tech cell nets c = masks_counted c (item_list tech cell nets) ∙ items_counted tech cell nets
