-- What each cell has while its lines are read: its nodes lie near, its wires and limits end within it, and each of
-- its names stands for what it says.
use Rattle.std.specs.Prelude.{◌≡◌, ℕ, ◌+◌, ◌<◌, ◌≤◌, true, false, List, [], length, take, Some, IsTrue}
use Rattle.std.specs.List.{AllByRecursion}
use Rattle.rule_table.specs.declared.technology.Tech.{Tech}
use Rattle.cell_model.specs.declared.cell.{Node.Node, Wire.Wire}
use Rattle.cell_model.specs.Sound.{node_at, wire_at, IsNode, IsWire, IsLimit, LeaveOneSide, EndsAt}
use Rattle.cell_model.specs.declared.cell.WireEnd.TheVariants as ends
use Rattle.checked_cells.specs.declared.names.{Binding.Binding, NodePlace.NodePlace, Pin.Pin, Copied.Copied}
use Rattle.checked_cells.specs.{CheckedCell.{CheckedCell, Plug, cell_of, known_at, plug_at, copied_node}, Paths.Names}
use Rattle.checked_cells.specs.{Paths.{named, first_name}, Lines.is_wired}
use Rattle.checked_cells.specs.declared.names.Binding.TheVariants as bindings

-- the node of this number has the name, and is what the node_place says
pub record IsNodePlace (nodes : List Node) (name : List ℕ) (node_place : NodePlace) : Type 0 where
  pub within : node_place.number < length nodes
  pub node : node_at nodes node_place.number
      ≡ record { name = name; kind = node_place.kind; col = node_place.col; row = node_place.row }

-- the port of this number is what the pin says
pub record IsPin (plugs : List Plug) (pin : Pin) : Type 0 where
  pub within : pin.number < length plugs
  pub side : (plug_at plugs pin.number).port.side ≡ pin.side
  pub layer : (plug_at plugs pin.number).port.layer ≡ pin.layer
  pub place : (plug_at plugs pin.number).port.place ≡ pin.place

-- an earlier cell without ports, whose nodes stand shifted from the copy's first on
pub record IsCopy (cells : List CheckedCell) (nodes : List Node) (name : List ℕ) (copy : Copied) : Type 0 where
  pub earlier : copy.cell < length cells
  pub closed : (known_at cells copy.cell).plugs ≡ []
  pub within : copy.first + length (known_at cells copy.cell).nodes ≤ length nodes
  pub node : (j : ℕ) → j < length (known_at cells copy.cell).nodes
      → node_at nodes (copy.first + j) ≡ copied_node name copy.col copy.row
      (node_at (known_at cells copy.cell).nodes j)

-- the name stands for what is there
abbrev pub IsRight : List CheckedCell → List Node → List Plug → List ℕ → Binding → Type 0
IsRight cells nodes plugs name (bindings.Node node_place) = IsNodePlace nodes name node_place
IsRight cells nodes plugs name (bindings.Port pin) = IsPin plugs pin
IsRight cells nodes plugs name (bindings.Copy copy) = IsCopy cells nodes name copy

-- the names of the nodes are paths into the cell, and no two of them are one
pub record ArePathsApart (table : Names) (nodes : List Node) : Type 0 where
  pub known : (k : ℕ) → k < length nodes → (binding : Binding)
      × (named table (first_name (node_at nodes k).name) ≡ Some binding)
  pub apart : (j k : ℕ) → j < length nodes → k < length nodes → (node_at nodes j).name ≡ (node_at nodes k).name → j ≡ k

-- port k lies near, and once a wire ends at it, the wire of its number and its width does, and no other
pub record IsPlug (wires : List Wire) (k : ℕ) (plug : Plug) : Type 0 where
  pub place : plug.port.place ≤ 4095
  pub wire : plug.wired ≡ true → plug.port.wire < length wires
  pub width : plug.wired ≡ true → (wire_at wires plug.port.wire).width ≡ plug.width
  pub ends_there : plug.wired ≡ true → EndsAt (ends.Port k) (wire_at wires plug.port.wire)
  pub only : plug.wired ≡ true → (j : ℕ) → j < length wires → EndsAt (ends.Port k) (wire_at wires j)
      → j ≡ plug.port.wire
  pub free : plug.wired ≡ false → (j : ℕ) → j < length wires → EndsAt (ends.Port k) (wire_at wires j) → ⊥

-- a cell after some of its lines, over the cells before it
pub record IsBuilt (tech : Tech) (cells : List CheckedCell) (known : CheckedCell) : Type 0 where
  pub nodes : AllByRecursion (IsNode tech) known.nodes
  pub wires : AllByRecursion (IsWire tech (cell_of known)) known.wires
  pub sides : (j k : ℕ) → j < length known.wires → k < length known.wires
      → LeaveOneSide (cell_of known) (wire_at known.wires j) (wire_at known.wires k)
      → (wire_at known.wires j).layer ≡ (wire_at known.wires k).layer
  pub plugs : (k : ℕ) → k < length known.plugs → IsPlug known.wires k (plug_at known.plugs k)
  pub limits : AllByRecursion (IsLimit (cell_of known)) known.limits
  pub apart : ArePathsApart known.names known.nodes
  pub names : AllByRecursion (λ entry. IsRight cells known.nodes known.plugs entry.0 entry.1) known.names
  pub own_depth : 1 ≤ known.depth
  pub depth : known.depth ≤ 16

-- each cell is built over the cells before it, and a wire ends at each of its ports
pub record AreBuilt (tech : Tech) (cells : List CheckedCell) : Type 0 where
  pub built : (k : ℕ) → k < length cells → IsBuilt tech (take k cells) (known_at cells k)
  pub wired : (k : ℕ) → k < length cells → IsTrue (is_wired (known_at cells k))
