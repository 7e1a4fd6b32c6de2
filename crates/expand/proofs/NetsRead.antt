-- How many nets a cell has of each kind, and the nets that a loop reads.
use Rattle.std.proofs.Common.{◌≡◌, ℕ, ◌+◌, ◌<◌, List, [], ◌∷◌, length, get_or, refl, ap, ◌∙◌, arith}
use Rattle.std.proofs.lemmas.List.{get_or_default}
use Rattle.cell_model.specs.declared.cell.{Node.Node, NodeNets.NodeNets, Nets.Nets, Cell.Cell}
use Rattle.cell_model.specs.Nets.{kind_parts, nets_of_nodes, AreNets}
use Rattle.expand.specs.Items.{no_nets, nets_at}

nets_of_nodes_count : (numbers : List ℕ) (k : ℕ) (nodes : List Node)
    → length (nets_of_nodes numbers k nodes) ≡ length nodes
nets_of_nodes_count numbers k [] = refl
nets_of_nodes_count numbers k (node ∷ nodes) = let h =
    nets_of_nodes_count numbers (k + kind_parts node.kind) nodes in omega arith

pub node_nets_count : (cell : Cell) (nets : Nets) → AreNets cell nets → length nets.node ≡ length cell.nodes
node_nets_count cell nets h = ap (λ (ns : List NodeNets). length ns) h.nodes
    ∙ nets_of_nodes_count h.numbers 0 cell.nodes

pub nets_read : (ns nets : List NodeNets) (k : ℕ) (d : NodeNets) → ns ≡ nets → k < length ns
    → get_or ns k d ≡ nets_at nets k
nets_read ns nets k d e lt = get_or_default ns k d no_nets lt ∙ ap (λ (ms : List NodeNets). nets_at ms k) e
