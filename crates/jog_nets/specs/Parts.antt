-- What the parts of a cell are after a jog: each node and each wire keeps its own under the new numbers.
use Rattle.std.specs.Prelude.{◌≡◌, ◌≢◌, ℕ, ◌+◌, ◌<◌, nat_lt, nat_le, if◌then◌else◌, length}
use Rattle.cell_model.specs.{declared.cell.{WireEnd.WireEnd, Wire.Wire, Cell.Cell}, Sound.{node_at, wire_at}}
use Rattle.cell_model.specs.Nets.{kind_parts, node_parts, first_part}
use Rattle.cell_model.specs.declared.cell.WireEnd.TheVariants as ends
use Rattle.jog_insert.specs.Nets.{moved_part}

-- the number of a node after two have come in after so many
abbrev pub node_after : ℕ → ℕ → ℕ
node_after at i = if nat_lt i at then i else i + 2

-- the number of a wire after wire number k has become three; of that one, the first of the three
abbrev pub wire_after : ℕ → ℕ → ℕ
wire_after k j = if nat_le j k then j else j + 2

-- the end is the same node, or still a port
abbrev pub IsEndAfter : ℕ → WireEnd → WireEnd → Type 0
IsEndAfter at (ends.Node i) its = its ≡ ends.Node (node_after at i)
IsEndAfter at (ends.Port i) its = (j : ℕ) × (its ≡ ends.Port j)

pub record IsWireAfter (at : ℕ) (wire its : Wire) : Type 0 where
  pub layer : its.layer ≡ wire.layer
  pub low : IsEndAfter at wire.low its.low
  pub high : IsEndAfter at wire.high its.high

-- After a jog of wire number k, whose joints come after so many nodes, each node has its name, its kind and its
-- parts, and each other wire its layer, its ends and its part; the joints' parts come where those of the nodes after
-- them began.
pub record KeepsParts (old new : Cell) (at k : ℕ) : Type 0 where
  pub nodes : length new.nodes ≡ length old.nodes + 2
  pub name : (i : ℕ) → i < length old.nodes → (node_at new.nodes (node_after at i)).name ≡ (node_at old.nodes i).name
  pub kind : (i : ℕ) → i < length old.nodes → (node_at new.nodes (node_after at i)).kind ≡ (node_at old.nodes i).kind
  pub parts : (i d : ℕ) → i < length old.nodes → d < kind_parts (node_at old.nodes i).kind
      → first_part new.nodes (node_after at i) + d ≡ moved_part old at k (first_part old.nodes i + d)
  pub joints : (first_part new.nodes at ≡ first_part old.nodes at)
      × (first_part new.nodes (at + 1) ≡ first_part old.nodes at + 1)
  pub wires : length new.wires ≡ length old.wires + 2
  pub wire : (j : ℕ) → j < length old.wires → j ≢ k
      → IsWireAfter at (wire_at old.wires j) (wire_at new.wires (wire_after k j))
  pub part : (j : ℕ) → j < length old.wires
      → node_parts new.nodes + wire_after k j ≡ moved_part old at k (node_parts old.nodes + j)
