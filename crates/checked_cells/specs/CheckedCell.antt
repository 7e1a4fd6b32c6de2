-- What is known of a cell after its lines so far: its names, and its content with each use replaced by what it stands
-- for.
use Rattle.std.specs.Prelude.{ℕ, ◌+◌, max, ℤ, pos, Bool, true, false, List, [], ◌∷◌, ◌++◌, length, map, fold, slice_set}
use Rattle.std.specs.Prelude.{slice_index_or}
use Rattle.rule_table.specs.declared.classes.Layer.{Layer}
use Rattle.lam_geom.specs.declared.boxes.Side.{Side}
use Rattle.cell_model.specs.declared.cell.{NodeKind.NodeKind, Node.Node, WireEnd.WireEnd, Wire.Wire, Port.Port}
use Rattle.cell_model.specs.{declared.cell.{Limit.Limit, Cell.Cell}, Sound.no_port}
use Rattle.cell_model.specs.declared.cell.WireEnd.TheVariants as ends
use Rattle.checked_cells.specs.declared.names.Binding.{Binding}
use Rattle.checked_cells.specs.declared.names.Binding.TheVariants as bindings

-- a port, the width of its wire, and whether a wire ends at it yet
pub record Plug : Type 0 where
  pub port : Port
  pub width : ℤ
  pub wired : Bool

pub record CheckedCell : Type 0 where
  pub name : List ℕ
  pub names : List (List ℕ × Binding)
  pub nodes : List Node
  pub wires : List Wire
  pub plugs : List Plug
  pub limits : List Limit
  pub depth : ℕ
  pub copies : ℕ

-- a cell before its first line
abbrev pub begun : List ℕ → CheckedCell
begun name = record { name = name; names = []; nodes = []; wires = []; plugs = []; limits = []; depth = 1; copies = 0 }

-- the cell itself
abbrev pub cell_of : CheckedCell → Cell
cell_of known =
    record {
      name = known.name;
      nodes = known.nodes;
      wires = known.wires;
      ports = map (λ plug. plug.port) known.plugs;
      limits = known.limits;
    }

-- cell number k, where there is one
abbrev pub known_at : List CheckedCell → ℕ → CheckedCell
known_at cells k = slice_index_or cells k (begun [])

-- ---- one more line

abbrev pub with_node : CheckedCell → List ℕ → NodeKind → ℕ → ℕ → CheckedCell
with_node known name kind col row = record known {
  names = known.names
      ++ (name, bindings.Node (record { number = length known.nodes; kind = kind; col = col; row = row })) ∷ [];
  nodes = known.nodes ++ record { name = name; kind = kind; col = col; row = row } ∷ [];
}

abbrev pub with_port : CheckedCell → List ℕ → Side → Layer → ℕ → CheckedCell
with_port known name side layer place = record known {
  names = known.names
      ++ (name, bindings.Port (record { number = length known.plugs; side = side; layer = layer; place = place })) ∷
      [];
  plugs = known.plugs ++ record {
    port = record { name = name; side = side; layer = layer; place = place; wire = 0 };
    width = pos 0;
    wired = false;
  } ∷ [];
}

abbrev pub no_plug : Plug
no_plug = record { port = no_port; width = pos 0; wired = false }

abbrev pub plug_at : List Plug → ℕ → Plug
plug_at plugs k = slice_index_or plugs k no_plug

-- the ports after a wire of this number and width has ended at one of them, or at a node
abbrev pub plugged : ℕ → ℤ → List Plug → WireEnd → List Plug
plugged wire width plugs (ends.Node k) = plugs
plugged wire width plugs (ends.Port k) =
    slice_set plugs k (record { port = record (plug_at plugs k).port { wire = wire }; width = width; wired = true })

abbrev pub with_wire : CheckedCell → Wire → CheckedCell
with_wire known wire = record known {
  wires = known.wires ++ wire ∷ [];
  plugs = plugged (length known.wires) wire.width (plugged (length known.wires) wire.width known.plugs wire.low)
      wire.high;
}

abbrev pub with_limit : CheckedCell → Limit → CheckedCell
with_limit known limit = record known { limits = known.limits ++ limit ∷ [] }

-- ---- a copy of an earlier cell

-- a name within the copy: that of the use, a dot, and the name in the cell
abbrev pub prefixed : List ℕ → List ℕ → List ℕ
prefixed use_name name = use_name ++ 46 ∷ name

abbrev pub copied_node : List ℕ → ℕ → ℕ → Node → Node
copied_node name col row node =
    record { name = prefixed name node.name; kind = node.kind; col = col + node.col; row = row + node.row }

-- the copy's nodes are numbered from the first on
abbrev pub copied_end : ℕ → WireEnd → WireEnd
copied_end first (ends.Node k) = ends.Node (first + k)
copied_end first (ends.Port k) = ends.Port k

abbrev pub copied_wire : ℕ → Wire → Wire
copied_wire first wire = record wire { low = copied_end first wire.low; high = copied_end first wire.high }

abbrev pub copied_limit : ℕ → Limit → Limit
copied_limit first limit = record limit { a = first + limit.a; b = first + limit.b }

-- with a copy of cell number k, shifted by columns and rows
abbrev pub with_copy : CheckedCell → List ℕ → ℕ → CheckedCell → ℕ → ℕ → CheckedCell
with_copy known name k copied col row = record known {
  names = known.names ++ (name, bindings.Copy (record { cell = k; first = length known.nodes; col = col; row = row }))
      ∷ [];
  nodes = known.nodes ++ map (copied_node name col row) copied.nodes;
  wires = known.wires ++ map (copied_wire (length known.nodes)) copied.wires;
  limits = known.limits ++ map (copied_limit (length known.nodes)) copied.limits;
  depth = max known.depth (copied.depth + 1);
  copies = known.copies + (copied.copies + 1);
}

-- the greatest column and row of a node, 0 where there is none
abbrev pub greatest_col : List Node → ℕ
greatest_col nodes = fold (λ most node. max most node.col) 0 nodes

abbrev pub greatest_row : List Node → ℕ
greatest_row nodes = fold (λ most node. max most node.row) 0 nodes
