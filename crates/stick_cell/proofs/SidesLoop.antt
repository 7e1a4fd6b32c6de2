-- The sides that are kept of each cell, with those of one more.
use Rattle.std.proofs.Common.{◌≡◌, ℕ, ◌<◌, ◌≤◌, ◌≢◌, Bool, List, [], ◌∷◌, ◌++◌, length, map, get_or, Option, Some, None}
use Rattle.std.proofs.{Common.{refl, sym, ap, subst, inl, inr, ◌∙◌, arith}, lemmas.List.{map-append, length-map}}
use Rattle.std.proofs.lemmas.{List.{length-append, get_or_push, get_or_append_left}, Bool.cases_eq}
use Rattle.std.specs.{Prelude.{◌⊎◌, ◌||◌}, List.join_with_byte}
use Rattle.rule_table.specs.declared.{technology.Tech.Tech, classes.Layer.Layer}
use Rattle.stick_lex.specs.Tokens.{names}
use Rattle.cell_model.specs.declared.cell.Axis2.{Axis2}
use Rattle.checked_cells.specs.declared.{names.{Copied.Copied, Binding.Binding}, table.Table.Table}
use Rattle.checked_cells.specs.{CheckedCell.{CheckedCell, begun, known_at}, Paths.{named, copy_of}, Built.IsBuilt}
use Rattle.checked_cells.specs.{Built.AreBuilt, Tables.AreTables, Sides.{is_left, is_left_in, is_left_inside, has}}
use Rattle.checked_cells.specs.Sides.{TakenAt, taken_at, side_entries, AreSidesOf, sides_at, HaveSides}
use Rattle.checked_cells.proofs.BuiltNames.{MoreCells, AreRight, right_named, cells_are_right}
use Rattle.checked_cells.proofs.{TableReads.length-tables, Built.{k_within, known_before, known_last}}
use Rattle.checked_cells.specs.declared.names.Binding.TheVariants as bindings

-- ---- more cells

-- cells with one more after them
pushed_cells : (cells : List CheckedCell) (known : CheckedCell) → MoreCells cells (cells ++ known ∷ [])
pushed_cells cells known =
    record {
      long = omega (arith, length-append cells (known ∷ []));
      same = λ k lt. get_or_append_left cells (known ∷ []) (begun []) k lt;
    }

-- the copied cell is still there
in_more : (cells others : List CheckedCell) (known : CheckedCell) (name path : List ℕ) (found : Option Binding)
    (layer : Layer) (along : Axis2) (is_low : Bool) → MoreCells cells others
    → ((binding : Binding) → found ≡ Some binding → (copy : Copied) → copy_of (Some binding) ≡ Some copy
    → copy.cell < length cells)
    → is_left_in others (copy_of found) path layer along is_low
    ≡ is_left_in cells (copy_of found) path layer along is_low
in_more cells others known name path None layer along is_low more earlier = refl
in_more cells others known name path (Some (bindings.Node node_place)) layer along is_low more earlier = refl
in_more cells others known name path (Some (bindings.Port pin)) layer along is_low more earlier = refl
in_more cells others known name path (Some (bindings.Copy copy)) layer along is_low more earlier =
    ap (λ (used : CheckedCell). is_left used path layer along is_low)
    (more.same copy.cell (earlier (bindings.Copy copy) refl copy refl))

copy_earlier : (cells : List CheckedCell) (known : CheckedCell) (name : List ℕ) (binding : Binding) (copy : Copied)
    → AreRight cells known.nodes known.plugs known.names → named known.names name ≡ Some binding
    → copy_of (Some binding) ≡ Some copy → copy.cell < length cells
copy_earlier cells known name (bindings.Node node_place) copy right is of = absurd cc
copy_earlier cells known name (bindings.Port pin) copy right is of = absurd cc
copy_earlier cells known name (bindings.Copy other) copy right is of =
    let same : other ≡ copy = cc in
    subst (λ (c : Copied). c.cell < length cells) same
    (right_named cells known.nodes known.plugs name (bindings.Copy other) known.names right is).earlier

inside_more : (cells others : List CheckedCell) (known : CheckedCell) (parts : List (List ℕ)) (layer : Layer)
    (along : Axis2) (is_low : Bool) → MoreCells cells others → AreRight cells known.nodes known.plugs known.names
    → is_left_inside others known.names parts layer along is_low
    ≡ is_left_inside cells known.names parts layer along is_low
inside_more cells others known [] layer along is_low more right = refl
inside_more cells others known (first ∷ []) layer along is_low more right = refl
inside_more cells others known (first ∷ next ∷ rest) layer along is_low more right =
    in_more cells others known first (join_with_byte 46 (next ∷ rest)) (named known.names first) layer along is_low
    more (λ binding is copy of. copy_earlier cells known first binding copy right is of)

pub sides_more_cells : (cells others : List CheckedCell) (known : CheckedCell) (entries : TakenAt)
    → MoreCells cells others → AreRight cells known.nodes known.plugs known.names → AreSidesOf cells known entries
    → AreSidesOf others known entries
sides_more_cells cells others known entries more right are = λ path layer along is_low no_metal.
    ap (λ (b : Bool). has (taken_at entries path) layer along is_low || b)
    (inside_more cells others known (names path) layer along is_low more right)
    ∙ are path layer along is_low no_metal

-- ---- one more cell

sides_of : Table → TakenAt
sides_of table = side_entries table.sides

sides_before : (tables : List Table) (table : Table) (k : ℕ) → k < length tables
    → sides_at (tables ++ table ∷ []) k ≡ sides_at tables k
unfolding sides_of
sides_before tables table k lt =
    ap (λ (l : List TakenAt). get_or l k []) (map-append sides_of tables (table ∷ []))
    ∙ get_or_append_left (map sides_of tables) (sides_of table ∷ []) [] k
    (omega (arith, lt, length-map tables sides_of))

sides_last : (tables : List Table) (table : Table) (k : ℕ) → k ≡ length tables
    → sides_at (tables ++ table ∷ []) k ≡ side_entries table.sides
unfolding sides_of
sides_last tables table k e =
    ap (λ (l : List TakenAt). get_or l k []) (map-append sides_of tables (table ∷ []))
    ∙ get_or_push (map sides_of tables) (sides_of table) [] k (length-map tables sides_of ∙ sym e)

same_sides : (cells : List CheckedCell) (known other : CheckedCell) (one two : TakenAt) → known ≡ other → one ≡ two
    → AreSidesOf cells other two → AreSidesOf cells known one
same_sides cells known other one two e f are =
    subst (λ (k : CheckedCell). AreSidesOf cells k one) (sym e) (subst (AreSidesOf cells other) (sym f) are)

-- the sides with those of one more cell
pub have_sides-push : (tech : Tech) (cells : List CheckedCell) (tables : List Table) (known : CheckedCell)
    (table : Table) → AreBuilt tech cells → IsBuilt tech cells known → AreTables cells tables → HaveSides cells tables
    → AreSidesOf cells known (side_entries table.sides) → HaveSides (cells ++ known ∷ []) (tables ++ table ∷ [])
have_sides-push tech cells tables known table cells_built built tell have are =
    λ k lt. each k (k_within cells known k lt) (cases_eq k (length cells))
  where
    many : length tables ≡ length cells
    many = length-tables cells tables tell

    each : (k : ℕ) → k ≤ length cells → (k ≡ length cells) ⊎ (k ≢ length cells)
        → AreSidesOf (cells ++ known ∷ []) (known_at (cells ++ known ∷ []) k) (sides_at (tables ++ table ∷ []) k)
    each k le (inl e) =
        same_sides (cells ++ known ∷ []) (known_at (cells ++ known ∷ []) k) known (sides_at (tables ++ table ∷ []) k)
        (side_entries table.sides) (known_last cells known k e) (sides_last tables table k (e ∙ sym many))
        (sides_more_cells cells (cells ++ known ∷ []) known (side_entries table.sides) (pushed_cells cells known)
        built.names are)
    each k le (inr ne) =
        let lt : k < length cells = omega (arith, le, ne) in
        same_sides (cells ++ known ∷ []) (known_at (cells ++ known ∷ []) k) (known_at cells k)
        (sides_at (tables ++ table ∷ []) k) (sides_at tables k) (known_before cells known k lt)
        (sides_before tables table k (omega (arith, lt, many)))
        (sides_more_cells cells (cells ++ known ∷ []) (known_at cells k) (sides_at tables k)
        (pushed_cells cells known) (cells_are_right tech cells cells_built k lt) (have k lt))
