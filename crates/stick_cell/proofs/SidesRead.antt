-- What the code reads of the sides that are kept.
use Rattle.std.proofs.Common.{◌≡◌, ℕ, ◌<◌, ◌≤◌, Bool, false, List, [], ◌∷◌, length, get_or, Option, Some, None}
use Rattle.std.proofs.Common.{option_map, option_copied, Bor, refl, sym, ap, subst, ◌∙◌, arith}
use Rattle.std.proofs.lemmas.List.{get_or_past, get_or-map, Splits.{join_with_byte-slice_split, length-slice_split}}
use Rattle.std.specs.{Prelude.{◌||◌, ◌==◌}, List.join_with_byte}
use Rattle.rule_table.specs.declared.classes.Layer.{Layer, TheVariants.Metal}
use Rattle.stick_lex.specs.Tokens.{names}
use Rattle.cell_model.specs.declared.cell.Axis2.{Axis2}
use Rattle.checked_cells.specs.declared.{names.{Binding.Binding, Copied.Copied}, table.Table.Table}
use Rattle.checked_cells.specs.{CheckedCell.{CheckedCell, begun, known_at}, Paths.{Names, named, copy_of, names_after}}
use Rattle.checked_cells.specs.{Kept.{capped_binding, capped_names}, Tables.{IsTableOf, AreTables}, Sides.is_left}
use Rattle.checked_cells.specs.Sides.{is_left_in, is_left_inside, has, TakenAt, taken_at, side_entries, AreSidesOf}
use Rattle.checked_cells.{specs.Sides.{sides_at, HaveSides}, proofs.TableReads.{length-tables, table_at}}
use Rattle.stick_cell.proofs.LineSteps.{named-capped}
use Rattle.checked_cells.specs.declared.names.Binding.TheVariants as bindings

-- the rest of a path is after its first name
pub inside_after : (cells : List CheckedCell) (table : Names) (first : List ℕ) (rest : List (List ℕ)) (layer : Layer)
    (along : Axis2) (is_low : Bool) → 0 < length rest
    → is_left_inside cells table (first ∷ rest) layer along is_low
    ≡ is_left_in cells (copy_of (named table first)) (join_with_byte 46 rest) layer along is_low
inside_after cells table first [] layer along is_low some = absurd (omega arith)
inside_after cells table first (next ∷ rest) layer along is_low some = refl

-- a thing whose number is capped
left_in-capped : (cells : List CheckedCell) (found : Option Binding) (path : List ℕ) (layer : Layer) (along : Axis2)
    (is_low : Bool)
    → is_left_in cells (copy_of (option_map capped_binding found)) path layer along is_low
    ≡ is_left_in cells (copy_of found) path layer along is_low
left_in-capped cells None path layer along is_low = refl
left_in-capped cells (Some (bindings.Node node_place)) path layer along is_low = refl
left_in-capped cells (Some (bindings.Port pin)) path layer along is_low = refl
left_in-capped cells (Some (bindings.Copy copy)) path layer along is_low = refl

-- where nothing is kept for the whole path, the copy that its first name stands for tells
pub left_by_first : (cells : List CheckedCell) (known : CheckedCell) (entries : TakenAt) (kept : Names)
    (path first rest : List ℕ) (copy : Option Copied) (layer : Layer) (along : Axis2) (is_low : Bool)
    → AreSidesOf cells known entries → kept ≡ capped_names known.names → (layer ≡ Metal → ⊥)
    → has (taken_at entries path) layer along is_low ≡ false → names path ≡ first ∷ names rest
    → copy ≡ copy_of (named kept first)
    → is_left_in cells copy rest layer along is_low ≡ is_left known path layer along is_low
left_by_first cells known entries kept path first rest copy layer along is_low are same no_metal none parts is =
    ap (λ o. is_left_in cells o rest layer along is_low)
    (is ∙ ap (λ table. copy_of (named table first)) same ∙ ap copy_of (named-capped known.names first))
    ∙ left_in-capped cells (named known.names first) rest layer along is_low
    ∙ ap (λ text. is_left_in cells (copy_of (named known.names first)) text layer along is_low)
    (sym (join_with_byte-slice_split 46 rest))
    ∙ sym (inside_after cells known.names first (names rest) layer along is_low
    (omega (arith, length-slice_split (λ b. b == 46) rest)))
    ∙ ap (λ all. is_left_inside cells known.names all layer along is_low) (sym parts)
    ∙ ap (λ (b : Bool). b || is_left_inside cells known.names (names path) layer along is_low) (sym none)
    ∙ are path layer along is_low no_metal

-- a cell that is not there has no wires
pub left_past : (cells : List CheckedCell) (tables : List Table) (k : ℕ) (path : List ℕ) (layer : Layer)
    (along : Axis2) (is_low : Bool) → AreTables cells tables → length tables ≤ k
    → false ≡ is_left (known_at cells k) path layer along is_low
left_past cells tables k path layer along is_low are past =
    ap (λ (known : CheckedCell). is_left known path layer along is_low)
    (sym (get_or_past cells k (begun []) (omega (arith, past, length-tables cells tables are))))

-- the table that is read at a cell's number, and the sides that are kept of it
pub sides_read : (cells : List CheckedCell) (tables : List Table) (k : ℕ) (table : Table) → AreTables cells tables
    → HaveSides cells tables → k < length tables → table ≡ get_or tables k table
    → IsTableOf (known_at cells k) table × AreSidesOf cells (known_at cells k) (side_entries table.sides)
sides_read cells tables k table are have lt at =
    let within : k < length cells = omega (arith, lt, length-tables cells tables are) in
    let same : sides_at tables k ≡ side_entries table.sides =
    get_or-map (λ (t : Table). side_entries t.sides) tables k table [] lt
    ∙ ap (λ (t : Table). side_entries t.sides) (sym at) in
    (table_at cells tables k table are within at, subst (AreSidesOf cells (known_at cells k)) same (have k within))

pub none_of : {A : Type 0} (o : Option A) → ((x : A) → o ≡ Some x → ⊥) → o ≡ None
none_of None never = refl
none_of (Some x) never = absurd (never x refl)

-- a name with others after it
pub parts_of : (path first : List ℕ) (after : Option (Bor (List ℕ))) (rest : Bor (List ℕ))
    → names path ≡ first ∷ names_after (option_copied after) → after ≡ Some rest → names path ≡ first ∷ names rest.now
parts_of path first after rest e is = e ∙ ap (λ (b : Option (Bor (List ℕ))). first ∷ names_after (option_copied b)) is
