-- How counts change with a line.
use Rattle.std.proofs.Common.{◌≡◌, ℕ, ◌+◌, ◌<◌, max, ◌==◌, Bool, false, if◌then◌else◌, List, [], ◌∷◌, ◌++◌, length, map}
use Rattle.std.proofs.Common.{fold, sum_by, refl, sym, ap, ◌∙◌, arith}
use Rattle.std.proofs.lemmas.List.{length_push, length-append, length-map, append-nil, Sums.sum_by_push}
use Rattle.std.proofs.lemmas.{List.Sums.{sum_by-append, sum_by-cons, fold-append}, Bool.Decides.nat_tests}
use Rattle.lam_geom.specs.declared.boxes.Side.{Side}
use Rattle.rule_table.specs.declared.classes.Layer.{Layer}
use Rattle.cell_model.specs.{declared.cell.{NodeKind.NodeKind, Node.Node, Wire.Wire, Limit.Limit}, Counts.items_in}
use Rattle.cell_model.specs.Counts.{boxes_in, node_items, wire_items, node_boxes, layer_items, kind_items, kind_boxes}
use Rattle.checked_cells.specs.CheckedCell.{CheckedCell, with_node, with_port, with_copy, with_wire, with_limit}
use Rattle.checked_cells.specs.CheckedCell.{greatest_col, greatest_row, copied_node, copied_wire, copied_limit}
use Rattle.checked_cells.specs.Counts.{weight_of, boxes_of, capped}

-- one more node
pub weight-with_node : (known : CheckedCell) (name : List ℕ) (kind : NodeKind) (col row : ℕ)
    → weight_of (with_node known name kind col row) ≡ weight_of known + kind_items kind
unfolding weight_of items_in
weight-with_node known name kind col row =
    let node : Node = record { name = name; kind = kind; col = col; row = row } in
    omega (arith, sum_by_push node_items known.nodes node)

pub boxes-with_node : (known : CheckedCell) (name : List ℕ) (kind : NodeKind) (col row : ℕ)
    → boxes_of (with_node known name kind col row) ≡ boxes_of known + kind_boxes kind
unfolding boxes_of boxes_in
boxes-with_node known name kind col row =
    let node : Node = record { name = name; kind = kind; col = col; row = row } in
    omega (arith, sum_by_push node_boxes known.nodes node)

-- a port is no item and no box
pub weight-with_port : (known : CheckedCell) (name : List ℕ) (side : Side) (layer : Layer) (place : ℕ)
    → weight_of (with_port known name side layer place) ≡ weight_of known
unfolding weight_of items_in
weight-with_port known name side layer place = refl

pub boxes-with_port : (known : CheckedCell) (name : List ℕ) (side : Side) (layer : Layer) (place : ℕ)
    → boxes_of (with_port known name side layer place) ≡ boxes_of known
unfolding boxes_of boxes_in
boxes-with_port known name side layer place = refl

-- the greatest column and row with one more node
pub greatest_col-push : (nodes : List Node) (node : Node)
    → greatest_col (nodes ++ node ∷ []) ≡ max (greatest_col nodes) node.col
greatest_col-push nodes node = fold-append (λ most node. max most node.col) 0 nodes (node ∷ [])

pub greatest_row-push : (nodes : List Node) (node : Node)
    → greatest_row (nodes ++ node ∷ []) ≡ max (greatest_row nodes) node.row
greatest_row-push nodes node = fold-append (λ most node. max most node.row) 0 nodes (node ∷ [])

-- a count with what is added
pub counted : (kept known added result next : ℕ) → kept ≡ capped known → result ≡ capped (kept + added)
    → next ≡ known + added → result ≡ capped next
counted kept known added result next is sum more = omega arith

-- ---- a copy of a cell

-- copies of nodes count as they do
sum_by-copied_node : (count : Node → ℕ)
    → ((name : List ℕ) (col row : ℕ) (node : Node) → count (copied_node name col row node) ≡ count node)
    → (name : List ℕ) (col row : ℕ) (nodes : List Node)
    → sum_by count (map (copied_node name col row) nodes) ≡ sum_by count nodes
sum_by-copied_node count same name col row [] = refl
sum_by-copied_node count same name col row (node ∷ nodes) =
    omega (
      arith,
      sum_by-cons count (copied_node name col row node)
          (map (copied_node name col row) nodes),
      sum_by-cons count node nodes,
      same name col row
          node,
      sum_by-copied_node count same name col row nodes,
    )

sum_by-copied_wire : (first : ℕ) (wires : List Wire)
    → sum_by wire_items (map (copied_wire first) wires) ≡ sum_by wire_items wires
sum_by-copied_wire first [] = refl
sum_by-copied_wire first (wire ∷ wires) =
    omega (
      arith,
      sum_by-cons wire_items (copied_wire first wire) (map (copied_wire first) wires),
      sum_by-cons
          wire_items wire wires,
      sum_by-copied_wire first wires,
    )

-- nodes with those of a copy
copied_nodes : (count : Node → ℕ)
    → ((name : List ℕ) (col row : ℕ) (node : Node) → count (copied_node name col row node) ≡ count node)
    → (nodes : List Node) (name : List ℕ) (col row : ℕ) (copied : List Node)
    → sum_by count (nodes ++ map (copied_node name col row) copied) ≡ sum_by count nodes + sum_by count copied
copied_nodes count same nodes name col row copied =
    omega (
      arith,
      sum_by-append count nodes (map (copied_node name col row) copied),
      sum_by-copied_node count same
          name col row copied,
    )

-- a copy adds what its cell has, and one use
pub weight-with_copy : (known : CheckedCell) (name : List ℕ) (k : ℕ) (copied : CheckedCell) (col row : ℕ)
    → weight_of (with_copy known name k copied col row) ≡ weight_of known + (weight_of copied + 1)
unfolding weight_of items_in
weight-with_copy known name k copied col row =
    let first = length known.nodes in
    omega (
      arith,
      copied_nodes node_items (λ name col row node. refl) known.nodes name col row copied.nodes,
      sum_by-append wire_items known.wires (map (copied_wire first) copied.wires),
      sum_by-copied_wire first copied.wires,
      length-append known.limits (map (copied_limit first) copied.limits),
      length-map copied.limits (copied_limit first),
    )

pub boxes-with_copy : (known : CheckedCell) (name : List ℕ) (k : ℕ) (copied : CheckedCell) (col row : ℕ)
    → boxes_of (with_copy known name k copied col row) ≡ boxes_of known + boxes_of copied
unfolding boxes_of boxes_in
boxes-with_copy known name k copied col row =
    let copied_wires = map (copied_wire (length known.nodes)) copied.wires in
    let nodes = copied_nodes node_boxes (λ name col row node. refl) known.nodes name col row copied.nodes in
    omega (
      arith,
      nodes,
      length-append known.wires copied_wires,
      length-map copied.wires
          (copied_wire (length known.nodes)),
    )

-- the greatest column, or row, with the copy's nodes
abbrev greatest : (Node → ℕ) → ℕ → List Node → ℕ
greatest of most nodes = fold (λ most node. max most (of node)) most nodes

fold_max : (of : Node → ℕ) (shift : ℕ) (copy : Node → Node) → ((node : Node) → of (copy node) ≡ shift + of node)
    → (most so_far other : ℕ) (nodes : List Node) → so_far ≡ max most (shift + other)
    → greatest of so_far (map copy nodes) ≡ max most (shift + greatest of other nodes)
fold_max of shift copy moved most so_far other [] e = e
fold_max of shift copy moved most so_far other (node ∷ nodes) e =
    fold_max of shift copy moved most (max so_far (of (copy node))) (max other (of node)) nodes
    (omega (arith, e, moved node))

greatest-copies : (of : Node → ℕ) (shift : ℕ) (copy : Node → Node)
    → ((node : Node) → of (copy node) ≡ shift + of node) → (before : List Node) (node : Node) (nodes : List Node)
    → greatest of 0 (before ++ map copy (node ∷ nodes)) ≡ max (greatest of 0 before)
    (shift + greatest of 0 (node ∷ nodes))
greatest-copies of shift copy moved before node nodes =
    fold-append (λ most node. max most (of node)) 0 before (map copy (node ∷ nodes))
    ∙ fold_max of shift copy moved (greatest of 0 before) (max (greatest of 0 before) (of (copy node)))
    (max 0 (of node)) nodes (omega (arith, moved node))

not_zero : (n : ℕ) → 0 < n → (n == 0) ≡ false
not_zero n h = grind (arith, nat_tests)

-- as the code finds it: where the copied cell has no node it does not rise
pub most-copies : (of : Node → ℕ) (shift : ℕ) (copy : Node → Node)
    → ((node : Node) → of (copy node) ≡ shift + of node) → (before nodes : List Node) (most count copied : ℕ)
    → most ≡ greatest of 0 before
    → count ≡ capped (length nodes) → copied ≡ greatest of 0 nodes
    → (if count == 0 then most else max most (shift + copied)) ≡ greatest of 0 (before ++ map copy nodes)
most-copies of shift copy moved before [] most count copied is counted same =
    ap (λ (n : ℕ). if n == 0 then most else max most (shift + copied)) counted ∙ is
    ∙ ap (greatest of 0) (sym (append-nil before))
most-copies of shift copy moved before (node ∷ nodes) most count copied is counted same =
    ap (λ (b : Bool). if b then most else max most (shift + copied)) (not_zero count (omega arith))
    ∙ ap (λ (n : ℕ). max n (shift + copied)) is ∙ ap (λ (n : ℕ). max (greatest of 0 before) (shift + n)) same
    ∙ sym (greatest-copies of shift copy moved before node nodes)

-- a capped count with a capped count
pub counted_copy : (kept known more added result next : ℕ) → kept ≡ capped known → more ≡ capped added
    → result ≡ capped (kept + more) → next ≡ known + added → result ≡ capped next
counted_copy kept known more added result next is also sum adds = omega arith

-- ---- a wire

pub weight-with_wire : (known : CheckedCell) (wire : Wire)
    → weight_of (with_wire known wire) ≡ weight_of known + layer_items wire.layer
unfolding weight_of items_in
weight-with_wire known wire = omega (arith, sum_by_push wire_items known.wires wire)

pub boxes-with_wire : (known : CheckedCell) (wire : Wire) → boxes_of (with_wire known wire) ≡ boxes_of known + 1
unfolding boxes_of boxes_in
boxes-with_wire known wire = omega (arith, length_push known.wires wire)

-- a limit
pub weight-with_limit : (known : CheckedCell) (limit : Limit) → weight_of (with_limit known limit) ≡ weight_of known + 1
unfolding weight_of items_in
weight-with_limit known limit = omega (arith, length_push known.limits limit)

pub boxes-with_limit : (known : CheckedCell) (limit : Limit) → boxes_of (with_limit known limit) ≡ boxes_of known
unfolding boxes_of boxes_in
boxes-with_limit known limit = refl
