-- There are no more than twice as many nets of instances as boxes, and twice as many pieces.
use Rattle.std.proofs.Common.{◌≡◌, ℕ, zero, suc, ◌*◌, ◌<◌, ◌≤◌, List, [], ◌∷◌, length, filter, refl, sym, ap, ◌∙◌}
use Rattle.std.proofs.Common.{arith, length-append, add-one}
use Rattle.std.proofs.lemmas.List.{length-map, FromFn.length-map-range_with_len, Sums.sum_by-cons}
use Rattle.std.specs.List.{All, flat_map, range_with_len, sum_by}
use Rattle.lam_geom.specs.declared.boxes.MaskLayer.{MaskLayer}
use Rattle.rule_table.specs.declared.technology.Tech.{Tech}
use Rattle.sym_items.specs.{declared.items.{Coords.Coords, Item.Item, Items.Items}, Layouts.no_layout}
use Rattle.cell_model.specs.declared.cell.{Cell.Cell, Nets.Nets, Node.Node, NodeKind.{NodeKind, TheVariants.Joint}}
use Rattle.cell_model.specs.{declared.cell.NodeKind.TheVariants.{Contact, Buried, Fet}, Counts.{implants, kind_boxes}}
use Rattle.cell_model.specs.{Counts.{node_boxes, boxes_in}, Nets.{kind_parts, node_parts, parts_of}}
use Rattle.expand.specs.{declared.master.Master.Master, Items.item_list, Masters.IsMaster}
use Rattle.pair_rules.specs.Bound.{item_at, no_item}
use Rattle.pitch_join.specs.Masters.{master_at, no_master}
use Rattle.mask_out.{specs.Masks.{is_drawn, masks_on, mask_layers, masks_in}, proofs.Counted.boxes_counted}
use Rattle.instance_laws.{specs.Shapes.{items_on, drawn_items}, proofs.PictureLists.{picked_images, by_numbers}}
use Rattle.design_nets.specs.{declared.{instances.Instance.Instance, shapes.Shape.Shape}, Firsts.together}
use Rattle.design_nets.specs.{Instances.master_no, Joining.{own_net, net_count, nets_in}, Nets.{nets_no, AreNetsOfAll}}
use Rattle.design_nets.specs.{Pieces.pieces_in, Shapes.{shape, shape_no, drawn_in, shapes_in}}
use Rattle.design_nets.proofs.{Boxes.few_pieces, Counted.count_few, Lists.together_more}

-- ---- lists, one after another

pub twice_together : {A B : Type 0} (f : ℕ → List A) (g : ℕ → List B) (n : ℕ)
    → ((k : ℕ) → k < n → length (f k) ≤ 2 * length (g k)) → length (together f n) ≤ 2 * length (together g n)
twice_together f g zero h = omega arith
twice_together f g (suc n) h =
    let before = twice_together f g n (λ k lt. h k (omega (arith, lt))) in
    let here = h n (omega arith) in
    let more_f = ap (λ k. length (together f k)) (sym (add-one n))
    ∙ (ap (λ (xs : List _). length xs) (together_more f n) ∙ length-append (together f n) (f n)) in
    let more_g = ap (λ k. length (together g k)) (sym (add-one n))
    ∙ (ap (λ (xs : List _). length xs) (together_more g n) ∙ length-append (together g n) (g n)) in
    omega (arith, before, here, more_f, more_g)

few_together : {A : Type 0} (f : ℕ → List A) (n : ℕ) → ((k : ℕ) → k < n → length (f k) ≤ 2)
    → length (together f n) ≤ 2 * n
few_together f zero h = omega arith
few_together f (suc n) h =
    let before = few_together f n (λ k lt. h k (omega (arith, lt))) in
    let here = h n (omega arith) in
    let more = ap (λ k. length (together f k)) (sym (add-one n))
    ∙ (ap (λ (xs : List _). length xs) (together_more f n) ∙ length-append (together f n) (f n)) in
    omega (arith, before, here, more)

pub pieces_few : (masters : List Master) (nets : List Nets) (instances : List Instance) (shapes : List Shape)
    → length (together (pieces_in masters nets instances shapes) (length shapes)) ≤ 2 * length shapes
pieces_few masters nets instances shapes =
    few_together (pieces_in masters nets instances shapes) (length shapes) (λ k lt.
    (let m = master_no instances (shape_no shapes k).instance in few_pieces (master_at masters m) (nets_no nets m) k
    (shape_no shapes k)))

-- ---- nets

kind_few : (kind : NodeKind) → kind_parts kind ≤ 2 * kind_boxes kind
kind_few (Joint layer width) = omega arith
kind_few (Contact lower) = omega arith
kind_few Buried = omega arith
kind_few (Fet depletion gate w l) = (let n : ℕ = implants depletion in omega arith)

nodes_few : (nodes : List Node) → node_parts nodes ≤ 2 * sum_by node_boxes nodes
nodes_few [] = omega arith
nodes_few (node ∷ nodes) =
    let parts = sum_by-cons (λ (n : Node). kind_parts n.kind) node nodes in
    let boxes = sum_by-cons node_boxes node nodes in
    let here = kind_few node.kind in
    let rest = nodes_few nodes in
    omega (arith, parts, boxes, here, rest)

parts_few : (cell : Cell) → parts_of cell ≤ 2 * boxes_in cell
unfolding boxes_in
parts_few cell = (let nodes = nodes_few cell.nodes in omega (arith, nodes))

-- ---- boxes

layer_counted : (c : Coords) (items : List Item) (layer : MaskLayer)
    → length (masks_on c items layer) ≡ length (items_on items layer)
layer_counted c items layer =
    length-map (filter (λ (i : Item). is_drawn layer i.class) items) _
    ∙ (ap (λ (is : List Item). length (filter (λ (i : Item). is_drawn layer i.class) is))
    (sym (by_numbers items no_item))
    ∙ (ap (λ (is : List Item). length is)
    (picked_images (λ (i : Item). is_drawn layer i.class) (item_at items) (range_with_len 0 (length items)))
    ∙ length-map (items_on items layer) (item_at items)))

layers_counted : (c : Coords) (items : List Item) (layers : List MaskLayer)
    → length (flat_map (masks_on c items) layers) ≡ length (flat_map (items_on items) layers)
layers_counted c items [] = refl
layers_counted c items (layer ∷ layers) =
    let first = length-append (masks_on c items layer) (flat_map (masks_on c items) layers) in
    let second = length-append (items_on items layer) (flat_map (items_on items) layers) in
    omega (arith, first, second, layer_counted c items layer, layers_counted c items layers)

drawn_counted : (c : Coords) (items : List Item) → length (masks_in c items) ≡ length (drawn_items items)
unfolding masks_in
drawn_counted c items = layers_counted c items mask_layers

master_drawn : (tech : Tech) (master : Master) → IsMaster tech master → length (drawn_in master) ≡ boxes_in master.cell
master_drawn tech master is =
    ap (λ (items : Items). length (drawn_items items.list)) is.items.are
    ∙ (sym (drawn_counted no_layout (item_list tech master.cell is.items.nets))
    ∙ boxes_counted tech master.cell is.items.nets no_layout)

-- ---- all nets of instances

pub nets_few : (tech : Tech) (masters : List Master) (nets : List Nets) (instances : List Instance)
    → All (IsMaster tech) masters → AreNetsOfAll masters nets
    → ((s : ℕ) → s < length instances → master_no instances s < length masters)
    → length (together (nets_in nets instances) (length instances)) ≤ 2 * length
    (together (shapes_in masters instances) (length instances))
nets_few tech masters nets instances each all among =
    twice_together (nets_in nets instances) (shapes_in masters instances) (length instances) (λ s lt.
    (let m : ℕ = master_no instances s in
    let master : Master = master_at masters m in
    let count = length-map-range_with_len (own_net s) 0 (net_count nets instances s) in
    let few = count_few master.cell (nets_no nets m) (all.each m (among s lt)) in
    let parts = parts_few master.cell in
    let boxes = master_drawn tech master (each m no_master (among s lt)) in
    let shown = length-map (drawn_in master) (shape s) in
    omega (arith, count, few, parts, boxes, shown)))
