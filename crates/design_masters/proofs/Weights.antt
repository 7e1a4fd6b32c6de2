-- How many mask boxes and parts a cell has, against what it weighs.
use Rattle.std.proofs.{Common.{ℕ, ◌+◌, ◌≤◌, List, [], ◌∷◌, length, sum_by, arith}, lemmas.List.Sums.sum_by-cons}
use Rattle.std.specs.{Prelude.All, List.AllByRecursion}
use Rattle.list_facts.proofs.Elements.{all_of}
use Rattle.rule_table.specs.declared.classes.Layer.{Layer, TheVariants.{Diffusion, Poly, Metal}}
use Rattle.cell_model.specs.{declared.cell.{Node.Node, Wire.Wire, NodeKind.NodeKind}, Counts.{items_in, boxes_in}}
use Rattle.cell_model.specs.Counts.{layer_items, kind_items, kind_boxes, node_items, node_boxes, wire_items}
use Rattle.cell_model.specs.declared.cell.NodeKind.TheVariants as kinds
use Rattle.checked_cells.specs.{Counts.{weight_of, boxes_of}, CheckedCell.{CheckedCell, cell_of}}

some_layer_items : (layer : Layer) → 1 ≤ layer_items layer
some_layer_items Diffusion = omega arith
some_layer_items Poly = omega arith
some_layer_items Metal = omega arith

fewer_kind_boxes : (kind : NodeKind) → (kind_boxes kind ≤ kind_items kind) × (1 ≤ kind_items kind)
fewer_kind_boxes (kinds.Joint layer width) = let s = some_layer_items layer in (omega (arith, s), omega (arith, s))
fewer_kind_boxes (kinds.Contact lower) = let s = some_layer_items lower in (omega (arith, s), omega (arith, s))
fewer_kind_boxes kinds.Buried = (omega arith, omega arith)
fewer_kind_boxes (kinds.Fet depletion gate w l) = (omega arith, omega arith)

fewer_node_boxes : (nodes : List Node) → (sum_by node_boxes nodes ≤ sum_by node_items nodes)
    × (length nodes ≤ sum_by node_items nodes)
fewer_node_boxes [] = (omega arith, omega arith)
fewer_node_boxes (node ∷ nodes) =
    let k = fewer_kind_boxes node.kind in
    let r = fewer_node_boxes nodes in
    let b = sum_by-cons node_boxes node nodes in
    let i = sum_by-cons node_items node nodes in
    (omega (arith, k, r, b, i), omega (arith, k, r, b, i))

fewer_wires : (wires : List Wire) → length wires ≤ sum_by wire_items wires
fewer_wires [] = omega arith
fewer_wires (wire ∷ wires) =
    let s = some_layer_items wire.layer in
    let r = fewer_wires wires in
    let i = sum_by-cons wire_items wire wires in
    omega (arith, s, r, i)

-- a cell has no more mask boxes than it weighs, and no more parts
pub fewer_boxes : (known : CheckedCell) → boxes_of known ≤ weight_of known
unfolding boxes_of boxes_in weight_of items_in
fewer_boxes known = omega (arith, (fewer_node_boxes known.nodes).0, fewer_wires known.wires)

pub fewer_parts : (known : CheckedCell)
    → length (cell_of known).nodes + length (cell_of known).wires + length (cell_of known).limits ≤ weight_of known
unfolding weight_of items_in
fewer_parts known = omega (arith, (fewer_node_boxes known.nodes).1, fewer_wires known.wires)

-- none of some weights is more than all together
below_all : {A : Type 0} (weight : A → ℕ) (xs : List A) (most : ℕ) → sum_by weight xs ≤ most
    → AllByRecursion (λ x. weight x ≤ most) xs
below_all weight [] most few = tt
below_all weight (x ∷ xs) most few = let all =
    sum_by-cons weight x xs in (omega (arith, few, all), below_all weight xs most (omega (arith, few, all)))

pub light_each : {A : Type 0} (weight : A → ℕ) (xs : List A) (most : ℕ) → sum_by weight xs ≤ most
    → All (λ x. weight x ≤ most) xs
light_each weight xs most few = all_of (λ x. weight x ≤ most) xs (below_all weight xs most few)
