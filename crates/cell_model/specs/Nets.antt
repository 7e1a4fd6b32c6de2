-- The nets of a cell: chains of attachments between its parts. The parts of the nodes come first, of a transistor its
-- gate, its low and its high diffusion, and then the wires.
use Rattle.std.specs.Prelude.{◌≡◌, ℕ, ◌+◌, true, false, Bool, List, [], ◌∷◌, ◌++◌, length, take, drop, sum_by}
use Rattle.std.specs.Prelude.{slice_index}
use Rattle.rule_table.specs.declared.classes.Layer.{Layer, TheVariants.{Diffusion, Poly, Metal}}
use Rattle.cell_model.specs.declared.cell.{NodeKind.{NodeKind, TheVariants.{Joint, Contact, Buried, Fet}}, Node.Node}
use Rattle.cell_model.specs.declared.cell.{WireEnd.WireEnd, Wire.Wire, Cell.Cell, NodeNets.NodeNets, Nets.Nets}
use Rattle.cell_model.specs.Sound.{node_at, IsEnd}
use Rattle.cell_model.specs.declared.cell.WireEnd.TheVariants as ends
use Rattle.graph_search.specs.Netting.{IsNetting, next_net, IsNumberedInOrder}

-- ---- parts

abbrev pub kind_parts : NodeKind → ℕ
kind_parts (Joint layer width) = 1
kind_parts (Contact lower) = 1
kind_parts Buried = 1
kind_parts (Fet depletion gate w l) = 3

-- how many parts some nodes have
abbrev pub node_parts : List Node → ℕ
node_parts nodes = sum_by (λ node. kind_parts node.kind) nodes

abbrev pub parts_of : Cell → ℕ
parts_of cell = node_parts cell.nodes + length cell.wires

-- the number of the first part of node k
abbrev pub first_part : List Node → ℕ → ℕ
first_part nodes k = node_parts (take k nodes)

-- Which part of a node a wire joins. Where the node is the low end of a diffusion wire, the wire leaves a transistor
-- on the high side.
abbrev pub joined_part : NodeKind → Layer → Bool → ℕ
joined_part (Joint own width) layer is_low = 0
joined_part (Contact lower) layer is_low = 0
joined_part Buried layer is_low = 0
joined_part (Fet depletion gate w l) Diffusion true = 2
joined_part (Fet depletion gate w l) Diffusion false = 1
joined_part (Fet depletion gate w l) Poly is_low = 0
joined_part (Fet depletion gate w l) Metal is_low = 0

-- the part at an end of a wire; a port has none
abbrev pub end_parts : List Node → Layer → Bool → WireEnd → List ℕ
end_parts nodes layer is_low (ends.Node k) = (first_part nodes k + joined_part (node_at nodes k).kind layer is_low) ∷ []
end_parts nodes layer is_low (ends.Port k) = []

-- a wire's part with each of some others
abbrev pub with_each : ℕ → List ℕ → List (ℕ × ℕ)
with_each wire [] = []
with_each wire (part ∷ parts) = (wire, part) ∷ with_each wire parts

-- each wire, its part numbered from k on, with the parts at its two ends
abbrev pub attachments : List Node → ℕ → List Wire → List (ℕ × ℕ)
attachments nodes k [] = []
attachments nodes k (wire ∷ wires) =
    with_each k (end_parts nodes wire.layer true wire.low ++ end_parts nodes wire.layer false wire.high)
    ++ attachments nodes (k + 1) wires

abbrev pub attachments_of : Cell → List (ℕ × ℕ)
attachments_of cell = attachments cell.nodes (node_parts cell.nodes) cell.wires

-- ---- the nets of nodes and wires

-- the nets of a node that has one
abbrev pub same_nets : ℕ → NodeNets
same_nets net = record { main = net; low = net; high = net }

-- of a transistor the nets of its gate, low and high diffusion; another node has one net
abbrev pub nets_of_kind : NodeKind → List ℕ → ℕ → NodeNets
nets_of_kind (Joint layer width) nets k = same_nets (slice_index nets k)
nets_of_kind (Contact lower) nets k = same_nets (slice_index nets k)
nets_of_kind Buried nets k = same_nets (slice_index nets k)
nets_of_kind (Fet depletion gate w l) nets k =
    record { main = slice_index nets k; low = slice_index nets (k + 1); high = slice_index nets (k + 2) }

-- of nodes whose parts are numbered from k on
abbrev pub nets_of_nodes : List ℕ → ℕ → List Node → List NodeNets
nets_of_nodes nets k [] = []
nets_of_nodes nets k (node ∷ nodes) =
    nets_of_kind node.kind nets k ∷ nets_of_nodes nets (k + kind_parts node.kind) nodes

-- the nets of a cell, by the number of each part
pub record AreNets (cell : Cell) (nets : Nets) : Type 0 where
  pub numbers : List ℕ
  pub netting : IsNetting (parts_of cell) (attachments_of cell) numbers
  pub in_order : IsNumberedInOrder numbers
  pub nodes : nets.node ≡ nets_of_nodes numbers 0 cell.nodes
  pub wires : nets.wire ≡ drop (node_parts cell.nodes) numbers
  pub count : nets.count ≡ next_net numbers

-- a wire ends at nodes and ports of the cell
pub record HasEnds (cell : Cell) (wire : Wire) : Type 0 where
  pub low : IsEnd cell wire.low
  pub high : IsEnd cell wire.high
