-- A cell has only one value of its nets.
use Rattle.std.proofs.Common.{◌≡◌, ℕ, List, drop, sym, ◌∙◌, ap}
use Rattle.cell_model.specs.declared.cell.{Cell.Cell, NodeNets.NodeNets, Nets.Nets}
use Rattle.cell_model.specs.Nets.{node_parts, parts_of, attachments_of, nets_of_nodes, AreNets}
use Rattle.graph_search.{specs.Netting.next_net, proofs.Determined.numbers_same}

-- nets with the same parts are the same
nets_by_parts : (a b : Nets) → a.node ≡ b.node → a.wire ≡ b.wire → a.count ≡ b.count → a ≡ b
nets_by_parts a b node wire count =
    ap (λ (n : List NodeNets). record a { node = n }) node
    ∙ ap (λ (w : List ℕ). record a { node = b.node; wire = w }) wire
    ∙ ap (λ (c : ℕ). record b { count = c }) count

-- the nets of a cell are determined
pub nets_same : (cell : Cell) (a b : Nets) → AreNets cell a → AreNets cell b → a ≡ b
nets_same cell a b ha hb =
    let e : ha.numbers ≡ hb.numbers =
    numbers_same (parts_of cell) (attachments_of cell) ha.numbers hb.numbers ha.netting ha.in_order hb.netting
    hb.in_order in
    nets_by_parts a b
    (ha.nodes ∙ ap (λ (ns : List ℕ). nets_of_nodes ns 0 cell.nodes) e ∙ sym hb.nodes)
    (ha.wires ∙ ap (drop (node_parts cell.nodes)) e ∙ sym hb.wires)
    (ha.count ∙ ap next_net e ∙ sym hb.count)
