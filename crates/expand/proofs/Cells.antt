-- What a sound cell has at each of its places.
use Rattle.std.proofs.{Common.{◌≡◌, ℕ, ◌<◌, length, sym, subst}, lemmas.List.Elements.All-from_recursion}
use Rattle.rule_table.specs.declared.technology.Tech.{Tech}
use Rattle.cell_model.specs.declared.cell.{NodeKind.NodeKind, WireEnd.WireEnd, Cell.Cell}
use Rattle.cell_model.specs.Sound.{IsNode, IsKind, IsWire, IsSound, IsEnd, node_at, wire_at, no_node, no_wire}
use Rattle.cell_model.specs.declared.cell.WireEnd.TheVariants as ends

pub node_sound : (tech : Tech) (cell : Cell) (k : ℕ) → IsSound tech cell → k < length cell.nodes
    → IsNode tech (node_at cell.nodes k)
node_sound tech cell k s lt = All-from_recursion (IsNode tech) cell.nodes s.nodes k no_node lt

pub wire_sound : (tech : Tech) (cell : Cell) (k : ℕ) → IsSound tech cell → k < length cell.wires
    → IsWire tech cell (wire_at cell.wires k)
wire_sound tech cell k s lt = All-from_recursion (IsWire tech cell) cell.wires s.wires k no_wire lt

-- the kind of a node, as the code reads it
pub kind_sound : (tech : Tech) (cell : Cell) (k : ℕ) (kind : NodeKind) → IsSound tech cell → k < length cell.nodes
    → kind ≡ (node_at cell.nodes k).kind → IsKind tech kind
kind_sound tech cell k kind s lt e =
    let P : NodeKind → Type 0 = IsKind tech in
    subst P (sym e) (node_sound tech cell k s lt).kind

-- the same of the node at which a wire ends
pub kind_sound_at : (tech : Tech) (cell : Cell) (end : WireEnd) (k : ℕ) (kind : NodeKind) → IsSound tech cell
    → IsEnd cell end → end ≡ ends.Node k → kind ≡ (node_at cell.nodes k).kind → IsKind tech kind
kind_sound_at tech cell end k kind s h e is =
    let P : WireEnd → Type 0 = IsEnd cell in
    let lt : k < length cell.nodes = subst P e h in
    kind_sound tech cell k kind s lt is
