-- What a path comes to: it goes through uses, and ends at a node, a port or a use.
use Rattle.std.specs.Prelude.{ℕ, ◌+◌, List, [], ◌∷◌, map, slice_index_or, Option, Some, None, option_map}
use Rattle.std.specs.{Prelude.{option_and_then, bytes_eq}, Map.lookup}
use Rattle.stick_lex.specs.Tokens.{names}
use Rattle.checked_cells.specs.declared.names.{NodePlace.NodePlace, Copied.Copied, Binding.Binding, Found.Found}
use Rattle.checked_cells.specs.{declared.names.Found.TheVariants.{At, AtCopy, Through}, CheckedCell.CheckedCell}
use Rattle.checked_cells.specs.declared.names.Binding.TheVariants as bindings
use Rattle.checked_cells.specs.declared.names.Terminal.TheVariants as terminals

-- the names of a cell, with what they stand for
abbrev pub Names : Type 0
Names = List (List ℕ × Binding)

-- what a name stands for among these
abbrev pub named : Names → List ℕ → Option Binding
named table name = lookup (λ other. bytes_eq name other) table

-- the first name of a path
abbrev pub first_of : List (List ℕ) → List ℕ
first_of [] = []
first_of (name ∷ path) = name

abbrev pub first_name : List ℕ → List ℕ
first_name path = first_of (names path)

-- the copy that a thing is
abbrev pub copy_of : Option Binding → Option Copied
copy_of None = None
copy_of (Some (bindings.Node node_place)) = None
copy_of (Some (bindings.Port pin)) = None
copy_of (Some (bindings.Copy copy)) = Some copy

-- the names of cell number k
abbrev pub names_at : List Names → ℕ → Names
names_at tables k = slice_index_or tables k []

-- a node of a copy, seen from the cell that holds the copy
abbrev pub place_in_copy : Copied → NodePlace → NodePlace
place_in_copy copy node_place =
    record {
      number = copy.first + node_place.number;
      kind = node_place.kind;
      col = copy.col + node_place.col;
      row = copy.row + node_place.row;
    }

abbrev pub seen_through : Copied → Found → Found
seen_through copy (At (terminals.Node node_place)) = At (terminals.Node (place_in_copy copy node_place))
seen_through copy (At (terminals.Port pin)) = At (terminals.Port pin)
seen_through copy AtCopy = AtCopy
seen_through copy Through = Through

-- what a thing and the names after it come to; inner tells what these names come to in an earlier cell
abbrev pub walk_on : Binding → List (List ℕ) → (ℕ → Option Found) → Option Found
walk_on (bindings.Node node_place) [] inner = Some (At (terminals.Node node_place))
walk_on (bindings.Node node_place) (name ∷ path) inner = Some Through
walk_on (bindings.Port pin) [] inner = Some (At (terminals.Port pin))
walk_on (bindings.Port pin) (name ∷ path) inner = Some Through
walk_on (bindings.Copy copy) [] inner = Some AtCopy
walk_on (bindings.Copy copy) (name ∷ path) inner = option_map (seen_through copy) (inner copy.cell)

-- what the names of a path come to, one after the other, given the names of the cells before; nothing where one is
-- unknown
abbrev pub walk : List Names → Names → List (List ℕ) → Option Found
walk tables table [] = None
walk tables table (name ∷ path) =
    option_and_then (λ binding. walk_on binding path (λ k. walk tables (names_at tables k) path)) (named table name)

-- the names of what stands after a name of a path, if something does
abbrev pub names_after : Option (List ℕ) → List (List ℕ)
names_after None = []
names_after (Some path) = names path

unfoldable pub found_at : List CheckedCell → CheckedCell → List ℕ → Option Found
found_at cells known path = walk (map (λ cell. cell.names) cells) known.names (names path)
