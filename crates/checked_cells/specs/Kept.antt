-- What the code keeps of names and of what paths come to: numbers of nodes are capped, and columns and rows end at 32
-- bits. In a cell that may be inlined, and whose nodes lie near, this is the thing itself.
use Rattle.std.specs.Prelude.{ℕ, ◌≤◌, min, map}
use Rattle.cell_model.specs.declared.cell.{WireEnd.WireEnd, Wire.Wire}
use Rattle.cell_model.specs.declared.cell.WireEnd.TheVariants as ends
use Rattle.checked_cells.specs.declared.names.{NodePlace.NodePlace, Binding.Binding, Terminal.Terminal, Found.Found}
use Rattle.checked_cells.specs.{declared.names.Found.TheVariants.{At, AtCopy, Through}, Counts.capped, Paths.Names}
use Rattle.checked_cells.specs.declared.names.Binding.TheVariants as bindings
use Rattle.checked_cells.specs.declared.names.Terminal.TheVariants as terminals

-- what a name stands for, with the number of a node capped
abbrev pub capped_binding : Binding → Binding
capped_binding (bindings.Node node_place) = bindings.Node (record node_place { number = capped node_place.number })
capped_binding (bindings.Port pin) = bindings.Port pin
capped_binding (bindings.Copy copy) = bindings.Copy (record copy { first = capped copy.first })

abbrev pub capped_names : Names → Names
capped_names names = map (λ entry. (entry.0, capped_binding entry.1)) names

-- the least of a column or a row and the greatest number of 32 bits
abbrev pub ended : ℕ → ℕ
ended n = min n 4294967295

abbrev pub kept_node_place : NodePlace → NodePlace
kept_node_place node_place =
    record {
      number = capped node_place.number;
      kind = node_place.kind;
      col = ended node_place.col;
      row = ended node_place.row;
    }

abbrev pub kept_terminal : Terminal → Terminal
kept_terminal (terminals.Node node_place) = terminals.Node (kept_node_place node_place)
kept_terminal (terminals.Port pin) = terminals.Port pin

abbrev pub kept_found : Found → Found
kept_found (At end) = At (kept_terminal end)
kept_found AtCopy = AtCopy
kept_found Through = Through

-- a node, with its number capped
abbrev pub capped_place : NodePlace → NodePlace
capped_place node_place = record node_place { number = capped node_place.number }

-- a wire, with the numbers of the nodes at its ends capped
abbrev pub capped_end : WireEnd → WireEnd
capped_end (ends.Node k) = ends.Node (capped k)
capped_end (ends.Port k) = ends.Port k

abbrev pub capped_wire : Wire → Wire
capped_wire wire = record wire { low = capped_end wire.low; high = capped_end wire.high }

-- a node that is found lies near
abbrev pub IsNearFound : Found → Type 0
IsNearFound (At (terminals.Node node_place)) = (node_place.col ≤ 4095) × (node_place.row ≤ 4095)
IsNearFound (At (terminals.Port pin)) = Unit {0}
IsNearFound AtCopy = Unit {0}
IsNearFound Through = Unit {0}
