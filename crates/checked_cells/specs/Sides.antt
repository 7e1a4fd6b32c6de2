-- On which sides wires leave the buried contacts of a cell: what is so, by the names of the contacts, and what the
-- code keeps of it.
use Rattle.std.specs.Prelude.{◌≡◌, ℕ, ◌<◌, ◌&&◌, ◌||◌, not, Bool, true, false, List, [], ◌∷◌, length, map, Option, Some}
use Rattle.std.specs.{Prelude.{None, slice_index_or, bytes_eq, if◌then◌else◌}, List.{list_any, join_with_byte}}
use Rattle.std.specs.Map.{lookup}
use Rattle.rule_table.specs.declared.classes.Layer.{Layer, TheVariants.{Diffusion, Poly, Metal}}
use Rattle.stick_lex.specs.Tokens.{names}
use Rattle.cell_model.specs.declared.cell.{Axis2.{Axis2, TheVariants.{Across, Up}}, Node.Node, WireEnd.WireEnd}
use Rattle.cell_model.specs.{declared.cell.Wire.Wire, Sound.node_at, Wiring.{is_same_axis, is_same_layer}}
use Rattle.cell_model.specs.declared.cell.WireEnd.TheVariants as ends
use Rattle.checked_cells.specs.declared.{names.{Copied.Copied, Run.Run, Terminal.Terminal}, sides.Sides.Sides}
use Rattle.checked_cells.specs.declared.{sides.{Taken.Taken, SideMap.SideMap}, table.Table.Table}
use Rattle.checked_cells.specs.{CheckedCell.{CheckedCell, known_at}, Paths.{Names, named, copy_of}, Wires.is_buried}
use Rattle.checked_cells.specs.declared.names.Terminal.TheVariants as terminals

-- ---- what is so

-- the end is a buried contact of this name
abbrev pub is_buried_at : List Node → List ℕ → WireEnd → Bool
is_buried_at nodes path (ends.Node k) = is_buried (node_at nodes k).kind && bytes_eq path (node_at nodes k).name
is_buried_at nodes path (ends.Port k) = false

-- a wire of this layer leaves it along an axis, on its high side, where it is the wire's low end, or on its low side
abbrev pub leaves_at : List Node → List ℕ → Layer → Axis2 → Bool → Wire → Bool
leaves_at nodes path layer along is_low wire =
    is_same_layer wire.layer layer
    && (is_same_axis wire.along along && is_buried_at nodes path (if is_low then wire.low else wire.high))

-- one of the cell's wires does, those of its copies among them
abbrev pub is_left : CheckedCell → List ℕ → Layer → Axis2 → Bool → Bool
is_left known path layer along is_low = list_any (leaves_at known.nodes path layer along is_low) known.wires

-- the first name of a path stands for a copy, and one of the wires of the copied cell leaves what the rest of the
-- path names there
abbrev pub is_left_in : List CheckedCell → Option Copied → List ℕ → Layer → Axis2 → Bool → Bool
is_left_in cells None path layer along is_low = false
is_left_in cells (Some copy) path layer along is_low = is_left (known_at cells copy.cell) path layer along is_low

abbrev pub is_left_inside : List CheckedCell → Names → List (List ℕ) → Layer → Axis2 → Bool → Bool
is_left_inside cells table [] layer along is_low = false
is_left_inside cells table (name ∷ []) layer along is_low = false
is_left_inside cells table (name ∷ next ∷ path) layer along is_low =
    is_left_in cells (copy_of (named table name)) (join_with_byte 46 (next ∷ path)) layer along is_low

-- one of another layer, poly or diffusion, does
abbrev pub is_taken : CheckedCell → List ℕ → Layer → Axis2 → Bool → Bool
is_taken known path layer along is_low = (not (is_same_layer Poly layer) && is_left known path Poly along is_low)
    || (not (is_same_layer Diffusion layer) && is_left known path Diffusion along is_low)

abbrev pub is_buried_end : Terminal → Bool
is_buried_end (terminals.Node node_place) = is_buried node_place.kind
is_buried_end (terminals.Port pin) = false

-- the terminal of this name is no buried contact, or no such wire leaves it there
abbrev pub is_open : CheckedCell → Terminal → List ℕ → Layer → Axis2 → Bool → Bool
is_open known end path layer along is_low = not (is_buried_end end) || not (is_taken known path layer along is_low)

-- and so of both ends of a run, given the paths to its low and its high end
abbrev pub are_open : CheckedCell → Run → List ℕ → List ℕ → Layer → Bool
are_open known run low high layer = is_open known run.low low layer run.along true
    && is_open known run.high high layer run.along false

-- ---- what is kept

-- the side on which a node is left by a wire along an axis, whose low end it is or whose high end
abbrev pub has_side : Sides → Axis2 → Bool → Bool
has_side sides Across true = sides.right
has_side sides Across false = sides.left
has_side sides Up true = sides.top
has_side sides Up false = sides.bottom

abbrev pub with_side : Sides → Axis2 → Bool → Sides
with_side sides Across true = record sides { right = true }
with_side sides Across false = record sides { left = true }
with_side sides Up true = record sides { top = true }
with_side sides Up false = record sides { bottom = true }

abbrev pub has : Taken → Layer → Axis2 → Bool → Bool
has taken Diffusion along is_low = has_side taken.diffusion along is_low
has taken Poly along is_low = has_side taken.poly along is_low
has taken Metal along is_low = false

abbrev pub with_taken : Taken → Layer → Axis2 → Bool → Taken
with_taken taken Diffusion along is_low = record taken { diffusion = with_side taken.diffusion along is_low }
with_taken taken Poly along is_low = record taken { poly = with_side taken.poly along is_low }
with_taken taken Metal along is_low = taken

abbrev pub no_sides : Sides
no_sides = record { left = false; right = false; bottom = false; top = false }

abbrev pub none_taken : Taken
none_taken = record { diffusion = no_sides; poly = no_sides }

-- of each path of a wire line that comes to a buried contact, the sides that are taken there
abbrev pub TakenAt : Type 0
TakenAt = List (List ℕ × Taken)

abbrev pub side_entries : SideMap → TakenAt
side_entries sides = map (λ entry. (entry.0.now, entry.1)) sides.taken.entries

abbrev pub taken_or_none : Option Taken → Taken
taken_or_none None = none_taken
taken_or_none (Some taken) = taken

abbrev pub taken_at : TakenAt → List ℕ → Taken
taken_at entries path = taken_or_none (lookup (λ other. bytes_eq path other) entries)

-- the same side
abbrev pub is_same_side : Axis2 → Bool → Axis2 → Bool → Bool
is_same_side along is_low other true = is_same_axis along other && is_low
is_same_side along is_low other false = is_same_axis along other && not is_low

-- with a wire that leaves what a path comes to
abbrev pub IsMarked : TakenAt → TakenAt → List ℕ → Layer → Axis2 → Bool → Type 0
IsMarked old new path layer along is_low =
    (other : List ℕ) (its_layer : Layer) (its_along : Axis2) (its_low : Bool) → (its_layer ≡ Metal → ⊥)
    → has (taken_at new other) its_layer its_along its_low
    ≡ (has (taken_at old other) its_layer its_along its_low || bytes_eq other path
    && (is_same_layer layer its_layer && is_same_side along is_low its_along its_low))

-- with one that leaves it if it is a buried contact
abbrev pub IsMarkedIf : Bool → TakenAt → TakenAt → List ℕ → Layer → Axis2 → Bool → Type 0
IsMarkedIf true old new path layer along is_low = IsMarked old new path layer along is_low
IsMarkedIf false old new path layer along is_low = new ≡ old

-- with a wire of the layer along a run between what two paths come to
pub record AreMarked (old new : TakenAt) (run : Run) (low high : List ℕ) (layer : Layer) : Type 0 where
  pub between : TakenAt
  pub at_low : IsMarkedIf (is_buried_end run.low) old between low layer run.along true
  pub at_high : IsMarkedIf (is_buried_end run.high) between new high layer run.along false

-- What is kept tells of the cell's own wires; those of a copy are told by what is kept of the copied cell.
abbrev pub AreSidesOf : List CheckedCell → CheckedCell → TakenAt → Type 0
AreSidesOf cells known entries =
    (path : List ℕ) (layer : Layer) (along : Axis2) (is_low : Bool) → (layer ≡ Metal → ⊥)
    → (has (taken_at entries path) layer along is_low || is_left_inside cells known.names (names path) layer along
    is_low) ≡ is_left known path layer along is_low

-- the sides that are kept of table number k, where there is one
abbrev pub sides_at : List Table → ℕ → TakenAt
sides_at tables k = slice_index_or (map (λ table. side_entries table.sides) tables) k []

-- what is kept of each cell tells of its own wires
abbrev pub HaveSides : List CheckedCell → List Table → Type 0
HaveSides cells tables = (k : ℕ) → k < length cells → AreSidesOf cells (known_at cells k) (sides_at tables k)
