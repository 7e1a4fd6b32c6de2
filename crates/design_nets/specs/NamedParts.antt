-- The parts of instances that have names: nodes, of a transistor its gate, its low and its high diffusion, and ports.
-- A wire has none.
use Rattle.smallvec.specs.SmallVec.{SmallVec}
use Rattle.std.specs.Prelude.{◌≡◌, ℕ, ◌+◌, ◌==◌, ◌<◌, ◌≤◌, All, Bool, List, [], ◌∷◌, ◌++◌, length, map, filter}
use Rattle.std.specs.{Prelude.{flat_map, codes, slice_index}, List.range_with_len}
use Rattle.cell_model.specs.declared.cell.{Cell.Cell, NodeKind.{NodeKind, TheVariants.{Joint, Contact, Buried, Fet}}}
use Rattle.cell_model.specs.{declared.cell.Nets.Nets, Nets.AreNets, Sound.{node_at, port_at}}
use Rattle.expand.specs.{declared.master.Master.Master, Items.nets_at}
use Rattle.pitch_join.specs.Masters.{master_at}
use Rattle.design_nets.specs.declared.{instances.Instance.Instance, named_parts.CellPart.{CellPart, TheVariants.Node}}
use Rattle.design_nets.specs.declared.named_parts.{CellPart.TheVariants.{Gate, Low, High, Port}, NamedPart.NamedPart}
use Rattle.design_nets.specs.declared.{numbering.NetNumbers.NetNumbers, owners.OwnNet.OwnNet}
use Rattle.design_nets.specs.{declared.connections.Connections.Connections, Connections.number_in, Firsts.together}
use Rattle.design_nets.specs.{Firsts.AreFirsts, Instances.master_no, Joining.{own_net, nets_in}, Listing.list_in}
use Rattle.design_nets.specs.Nets.{nets_no, AreNetsOfAll}

-- ---- of a cell

-- those of node number k, which is of this kind
abbrev pub parts_of_kind : NodeKind → ℕ → List CellPart
parts_of_kind (Joint layer width) k = Node k ∷ []
parts_of_kind (Contact lower) k = Node k ∷ []
parts_of_kind Buried k = Node k ∷ []
parts_of_kind (Fet depletion gate w l) k = Gate k ∷ Low k ∷ High k ∷ []

abbrev pub parts_of_node : Cell → ℕ → List CellPart
parts_of_node cell k = parts_of_kind (node_at cell.nodes k).kind k

-- nodes in order, and then ports in order
abbrev pub parts_of_cell : Cell → List CellPart
parts_of_cell cell = flat_map (parts_of_node cell) (range_with_len 0 (length cell.nodes))
    ++ map Port (range_with_len 0 (length cell.ports))

-- the name of a part: the path of its node, or the port's name
abbrev pub name_in : Cell → CellPart → List ℕ
name_in cell (Node k) = (node_at cell.nodes k).name
name_in cell (Gate k) = (node_at cell.nodes k).name ++ codes ".gate"
name_in cell (Low k) = (node_at cell.nodes k).name ++ codes ".low"
name_in cell (High k) = (node_at cell.nodes k).name ++ codes ".high"
name_in cell (Port k) = (port_at cell.ports k).name

-- its net; a port is of the net of its wire
abbrev pub net_in : Cell → Nets → CellPart → ℕ
net_in cell nets (Node k) = (nets_at nets.node k).main
net_in cell nets (Gate k) = (nets_at nets.node k).main
net_in cell nets (Low k) = (nets_at nets.node k).low
net_in cell nets (High k) = (nets_at nets.node k).high
net_in cell nets (Port k) = slice_index nets.wire (port_at cell.ports k).wire

-- it is one of the cell's
abbrev pub IsCellPart : Cell → CellPart → Type 0
IsCellPart cell (Node k) = k < length cell.nodes
IsCellPart cell (Gate k) = k < length cell.nodes
IsCellPart cell (Low k) = k < length cell.nodes
IsCellPart cell (High k) = k < length cell.nodes
IsCellPart cell (Port k) = k < length cell.ports

-- ---- of instances

-- the cell of instance number s
abbrev pub cell_no : List Master → List Instance → ℕ → Cell
cell_no masters instances s = (master_at masters (master_no instances s)).cell

abbrev pub part_of : ℕ → CellPart → NamedPart
part_of s part = record { instance = s; part = part }

abbrev pub parts_in : List Master → List Instance → ℕ → List NamedPart
parts_in masters instances s = map (part_of s) (parts_of_cell (cell_no masters instances s))

-- of all, one instance after another
abbrev pub named_parts : List Master → List Instance → List NamedPart
named_parts masters instances = together (parts_in masters instances) (length instances)

-- the net of its instance that a part is of
abbrev pub own_net_of : List Master → List Nets → List Instance → NamedPart → OwnNet
own_net_of masters nets instances p =
    own_net p.instance
    (net_in (cell_no masters instances p.instance) (nets_no nets (master_no instances p.instance)) p.part)

pub record IsNamedPart (masters : List Master) (instances : List Instance) (p : NamedPart) : Type 0 where
  pub instance : p.instance < length instances
  pub master : master_no instances p.instance < length masters
  pub part : IsCellPart (cell_no masters instances p.instance) p.part

-- ---- of nets

-- those whose net has this number
abbrev pub is_of_net : (NamedPart → ℕ) → ℕ → NamedPart → Bool
is_of_net number net p = number p == net

abbrev pub parts_of_net : (NamedPart → ℕ) → List NamedPart → ℕ → List NamedPart
parts_of_net number parts net = filter (is_of_net number net) parts

-- to the lists of nets have been added some parts, each to that of its net
pub record AreListed (number : NamedPart → ℕ) (parts : List NamedPart) (old new : List (SmallVec NamedPart)) : Type
    0 where
  pub counted : length new ≡ length old
  pub each : (net : ℕ) → net < length old → list_in new net ≡ list_in old net ++ parts_of_net number parts net

-- ---- their numbers

-- the number of the net of a part of instance number s
abbrev pub number_by : NetNumbers → ℕ → Cell → Nets → NamedPart → ℕ
number_by numbers s cell nets p = number_in numbers (own_net s (net_in cell nets p.part))

-- instance number s is of a cell with nets, each of which has a number, and whose ports are of its wires
pub record IsNumbered (s : ℕ) (cell : Cell) (nets : Nets) (numbers : NetNumbers) : Type 0 where
  pub nets_are : AreNets cell nets
  pub instance : s < length numbers.firsts.items
  pub within : slice_index numbers.firsts.items s + nets.count ≤ length numbers.all.items
  pub wired : (k : ℕ) → k < length cell.ports → (port_at cell.ports k).wire < length cell.wires

-- instances of masters with nets, each with a number
pub record AreNumbered (masters : List Master) (c : Connections) : Type 0 where
  pub among : All (λ (i : Instance). i.master < length masters) c.instances.items
  pub nets : AreNetsOfAll masters c.nets.items
  pub wired : (m k : ℕ) → m < length masters → k < length (master_at masters m).cell.ports
      → (port_at (master_at masters m).cell.ports k).wire < length (master_at masters m).cell.wires
  pub first : ℕ
  pub firsts : AreFirsts (nets_in c.nets.items c.instances.items) (length c.instances.items) first
      c.numbers.firsts.items
  pub counted : length c.numbers.all.items ≡ slice_index c.numbers.firsts.items (length c.instances.items)
