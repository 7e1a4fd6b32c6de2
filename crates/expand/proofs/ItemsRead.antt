-- The items of the node and of the wire that a loop reads.
use Rattle.std.{proofs.Common.{◌≡◌, ℕ, ◌+◌, List, ◌++◌, length, ap, ◌∙◌}, specs.Prelude.slice_index}
use Rattle.rule_table.specs.declared.technology.Tech.{Tech}
use Rattle.sym_items.specs.declared.items.Item.{Item}
use Rattle.cell_model.specs.declared.cell.{NodeKind.NodeKind, NodeNets.NodeNets, Wire.Wire, Nets.Nets, Cell.Cell}
use Rattle.cell_model.specs.Sound.{node_at, wire_at}
use Rattle.expand.specs.{Variables.cross_of, NodeItems.kind_items, WireItems.wire_items, Items.{nets_at, items_of_node}}
use Rattle.expand.specs.Items.{items_of_wire}

pub node_pushed : (tech : Tech) (cell : Cell) (nets : Nets) (k : ℕ) (kind : NodeKind) (own : NodeNets)
    (now next : List Item)
    → next ≡ now ++ kind_items tech k kind own → kind ≡ (node_at cell.nodes k).kind → own ≡ nets_at nets.node k
    → next ≡ now ++ items_of_node tech cell nets k
node_pushed tech cell nets k kind own now next e ek en =
    e ∙ ap (λ (x : NodeKind). now ++ kind_items tech k x own) ek
    ∙ ap (λ (x : NodeNets). now ++ kind_items tech k (node_at cell.nodes k).kind x) en

pub wire_pushed : (tech : Tech) (cell : Cell) (nets : Nets) (k owner net cross : ℕ) (wire : Wire) (now next : List Item)
    → next ≡ now ++ wire_items tech cell owner net cross wire
    → owner ≡ length cell.nodes + k → net ≡ slice_index nets.wire k → cross ≡ cross_of cell k
    → wire ≡ wire_at cell.wires k
    → next ≡ now ++ items_of_wire tech cell nets k
wire_pushed tech cell nets k owner net cross wire now next e eo en ec ew =
    e ∙ ap (λ (x : ℕ). now ++ wire_items tech cell x net cross wire) eo
    ∙ ap (λ (x : ℕ). now ++ wire_items tech cell (length cell.nodes + k) x cross wire) en
    ∙ ap (λ (x : ℕ). now ++ wire_items tech cell (length cell.nodes + k) (slice_index nets.wire k) x wire) ec
    ∙ ap (λ (x : Wire). now ++ wire_items tech cell (length cell.nodes + k) (slice_index nets.wire k)
    (cross_of cell k) x) ew
