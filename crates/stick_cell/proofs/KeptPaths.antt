-- Paths walked over what the code keeps of the names: what they come to is what they come to over the names
-- themselves, as far as the code keeps it.
use Rattle.std.proofs.Common.{◌≡◌, ℕ, ◌+◌, List, [], ◌∷◌, map, Option, Some, None, option_map, option_and_then, refl}
use Rattle.std.proofs.{Common.{sym, ap, ◌∙◌, arith}, Math.ListN.get_or-map}
use Rattle.stick_lex.specs.Tokens.{names}
use Rattle.checked_cells.specs.declared.names.{Copied.Copied, Binding.Binding, Found.{Found, TheVariants.{At, AtCopy}}}
use Rattle.checked_cells.specs.{declared.{names.Found.TheVariants.Through, table.Table.Table}, CheckedCell.CheckedCell}
use Rattle.checked_cells.specs.{Counts.capped, Paths.{Names, named, names_at, seen_through, walk_on, walk, found_at}}
use Rattle.checked_cells.specs.{Kept.{capped_binding, capped_names, ended, kept_found}, NameEntries.entries_of}
use Rattle.checked_cells.specs.Tables.{AreTables}
use Rattle.stick_cell.proofs.{LineSteps.named-capped, Composed.kept_all_through}
use Rattle.checked_cells.specs.declared.names.Binding.TheVariants as bindings
use Rattle.checked_cells.specs.declared.names.Terminal.TheVariants as terminals

-- ---- what a path comes to

-- a number that is capped before it is added to and capped again
capped_first : (first number : ℕ) → capped (capped first + number) ≡ capped (first + number)
capped_first first number = omega arith

-- what is kept of what is found, seen through a copy whose first number is capped
kept_through_capped : (copy : Copied) (found : Found)
    → kept_found (seen_through (record copy { first = capped copy.first }) found)
    ≡ kept_found (seen_through copy found)
kept_through_capped copy (At (terminals.Node node_place)) =
    let number : capped (capped copy.first + node_place.number) ≡ capped (copy.first + node_place.number) =
    capped_first copy.first node_place.number in
    cc
kept_through_capped copy (At (terminals.Port pin)) = refl
kept_through_capped copy AtCopy = refl
kept_through_capped copy Through = refl

all_through_capped : (copy : Copied) (found : Option Found)
    → option_map kept_found (option_map (seen_through (record copy { first = capped copy.first })) found)
    ≡ option_map kept_found (option_map (seen_through copy) found)
all_through_capped copy None = refl
all_through_capped copy (Some found) = ap Some (kept_through_capped copy found)

capped_twice : (n : ℕ) → capped (capped n) ≡ capped n
capped_twice n = omega arith

-- through a copy, from what the rest of the path comes to in the copied cell
copy-capped : (copy : Copied) (inside inner : Option Found) → option_map kept_found inside ≡ option_map kept_found inner
    → option_map kept_found (option_map (seen_through (record copy { first = capped copy.first })) inside)
    ≡ option_map kept_found (option_map (seen_through copy) inner)
copy-capped copy inside inner same =
    all_through_capped copy inside
    ∙ sym (kept_all_through copy inside)
    ∙ ap (option_map (λ f. kept_found (seen_through copy f))) same
    ∙ kept_all_through copy inner

walk_on-capped : (binding : Binding) (path : List (List ℕ)) (inside inner : ℕ → Option Found)
    → ((k : ℕ) → option_map kept_found (inside k) ≡ option_map kept_found (inner k))
    → option_map kept_found (walk_on (capped_binding binding) path inside)
    ≡ option_map kept_found (walk_on binding path inner)
walk_on-capped (bindings.Node node_place) [] inside inner same =
    ap (λ (n : ℕ).
    Some (At
    (terminals.Node
    (record {
      number = n;
      kind = node_place.kind;
      col = ended node_place.col;
      row = ended node_place.row;
    })))) (capped_twice node_place.number)
walk_on-capped (bindings.Node node_place) (name ∷ path) inside inner same = refl
walk_on-capped (bindings.Port pin) [] inside inner same = refl
walk_on-capped (bindings.Port pin) (name ∷ path) inside inner same = refl
walk_on-capped (bindings.Copy copy) [] inside inner same = refl
walk_on-capped (bindings.Copy copy) (name ∷ path) inside inner same =
    copy-capped copy (inside copy.cell) (inner copy.cell) (same copy.cell)

and_then-capped : (found : Option Binding) (path : List (List ℕ)) (inside inner : ℕ → Option Found)
    → ((k : ℕ) → option_map kept_found (inside k) ≡ option_map kept_found (inner k))
    → option_map kept_found
    (option_and_then (λ binding. walk_on binding path inside) (option_map capped_binding found))
    ≡ option_map kept_found (option_and_then (λ binding. walk_on binding path inner) found)
and_then-capped None path inside inner same = refl
and_then-capped (Some binding) path inside inner same = walk_on-capped binding path inside inner same

-- what a path comes to over names whose numbers are capped
pub walk-capped : (tables : List Names) (scope : Names) (parts : List (List ℕ))
    → option_map kept_found (walk (map capped_names tables) (capped_names scope) parts)
    ≡ option_map kept_found (walk tables scope parts)
walk-capped tables scope [] = refl
walk-capped tables scope (name ∷ path) =
    let inside = λ (k : ℕ). walk (map capped_names tables) (names_at (map capped_names tables) k) path in
    let inner = λ (k : ℕ). walk tables (names_at tables k) path in
    ap (λ (found : Option Binding).
    option_map kept_found (option_and_then (λ binding. walk_on binding path inside) found)) (named-capped scope
    name)
    ∙ and_then-capped (named scope name) path inside inner (λ k.
    ap (λ (table : Names). option_map kept_found (walk (map capped_names tables) table path))
    (get_or-map capped_names tables k [])
    ∙ walk-capped tables (names_at tables k) path)

-- ---- over the tables of cells

tables-capped : (cells : List CheckedCell) (tables : List Table) → AreTables cells tables
    → map (λ table. entries_of table.names) tables ≡ map capped_names (map (λ cell. cell.names) cells)
tables-capped [] [] are = refl
tables-capped [] (table ∷ tables) are = absurd are
tables-capped (known ∷ cells) [] are = absurd are
tables-capped (known ∷ cells) (table ∷ tables) are =
    let first = are.0.tells.names in
    let rest = tables-capped cells tables are.1 in
    cc

-- what the code finds at a path is what the path comes to, as far as the code keeps it
pub found_at-kept : (cells : List CheckedCell) (tables : List Table) (known : CheckedCell) (scope : Names)
    (path : List ℕ) → AreTables cells tables → scope ≡ capped_names known.names
    → option_map kept_found (walk (map (λ table. entries_of table.names) tables) scope (names path))
    ≡ option_map kept_found (found_at cells known path)
unfolding found_at
found_at-kept cells tables known scope path are same =
    ap (λ (all : List Names). option_map kept_found (walk all scope (names path))) (tables-capped cells tables are)
    ∙ ap (λ (own : Names).
    option_map kept_found (walk (map capped_names (map (λ cell. cell.names) cells)) own (names path))) same
    ∙ walk-capped (map (λ cell. cell.names) cells) known.names (names path)
