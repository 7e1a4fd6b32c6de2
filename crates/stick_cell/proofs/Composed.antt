-- Paths walked name by name, over what the code keeps of the names.
use Rattle.std.proofs.Common.{◌≡◌, ℕ, ◌+◌, ◌<◌, ◌==◌, min, List, [], ◌∷◌, length, Option, Some, None, option_map}
use Rattle.std.proofs.{Common.{option_and_then, refl, sym, ap, ◌∙◌, arith}, lemmas.List.Splits.length-slice_split}
use Rattle.stick_lex.specs.Tokens.{names}
use Rattle.checked_cells.specs.declared.names.{NodePlace.NodePlace, Pin.Pin, Copied.Copied, Binding.Binding}
use Rattle.checked_cells.specs.{declared.names.Found.{Found, TheVariants.{At, AtCopy, Through}}, Counts.capped}
use Rattle.checked_cells.specs.{Paths.{Names, named, names_at, seen_through, walk_on, walk}, Kept.{ended, kept_found}}
use Rattle.checked_cells.specs.declared.names.Binding.TheVariants as bindings
use Rattle.checked_cells.specs.declared.names.Terminal.TheVariants as terminals

-- a path has a first name
has_name : (path : List ℕ) → 0 < length (names path)
has_name path = omega (arith, length-slice_split (λ b. b == 46) path)

-- the walk goes by what the first name stands for
walk_from : (tables : List Names) (scope : Names) (parts : List (List ℕ)) (name : List ℕ) (rest : List (List ℕ))
    (binding : Binding) → parts ≡ name ∷ rest → named scope name ≡ Some binding
    → walk tables scope parts ≡ walk_on binding rest (λ k. walk tables (names_at tables k) rest)
walk_from tables scope parts name rest binding e is =
    ap (walk tables scope) e
    ∙ ap (option_and_then (λ (t : Binding). walk_on t rest (λ k. walk tables (names_at tables k) rest))) is

-- a cell with no names
pub walk_nothing : (tables : List Names) (parts : List (List ℕ)) → walk tables [] parts ≡ None
walk_nothing tables [] = refl
walk_nothing tables (name ∷ rest) = refl

pub after_node : (node_place : NodePlace) (rest : List (List ℕ)) (inner : ℕ → Option Found) → 0 < length rest
    → walk_on (bindings.Node node_place) rest inner ≡ Some Through
after_node node_place [] inner h = absurd (omega arith)
after_node node_place (name ∷ rest) inner h = refl

pub after_port : (pin : Pin) (rest : List (List ℕ)) (inner : ℕ → Option Found) → 0 < length rest
    → walk_on (bindings.Port pin) rest inner ≡ Some Through
after_port pin [] inner h = absurd (omega arith)
after_port pin (name ∷ rest) inner h = refl

after_copy : (copy : Copied) (rest : List (List ℕ)) (inner : ℕ → Option Found) → 0 < length rest
    → walk_on (bindings.Copy copy) rest inner ≡ option_map (seen_through copy) (inner copy.cell)
after_copy copy [] inner h = absurd (omega arith)
after_copy copy (name ∷ rest) inner h = refl

-- capping what is added to a capped number
min_min : (a b m : ℕ) → min (a + min b m) m ≡ min (a + b) m
min_min a b m = omega arith

-- what the code keeps of what is found tells what it keeps of it seen through a copy
kept_through : (copy : Copied) (found : Found)
    → kept_found (seen_through copy (kept_found found)) ≡ kept_found (seen_through copy found)
kept_through copy (At (terminals.Node node_place)) =
    let number : capped (copy.first + capped node_place.number) ≡ capped (copy.first + node_place.number) =
    min_min copy.first node_place.number 65537 in
    let col : ended (copy.col + ended node_place.col) ≡ ended (copy.col + node_place.col) =
    min_min copy.col node_place.col 4294967295 in
    let row : ended (copy.row + ended node_place.row) ≡ ended (copy.row + node_place.row) =
    min_min copy.row node_place.row 4294967295 in
    cc
kept_through copy (At (terminals.Port pin)) = refl
kept_through copy AtCopy = refl
kept_through copy Through = refl

pub kept_all_through : (copy : Copied) (found : Option Found)
    → option_map (λ f. kept_found (seen_through copy f)) (option_map kept_found found)
    ≡ option_map kept_found (option_map (seen_through copy) found)
kept_all_through copy None = refl
kept_all_through copy (Some found) = ap Some (kept_through copy found)

-- a path into a copy, from what the rest of it comes to in the copied cell
pub found_in_copy : (tables : List Names) (scope : Names) (path rest : List ℕ) {inner : Names} {name : List ℕ}
    {copy : Copied} {found : Option Found} → names path ≡ name ∷ names rest
    → named scope name ≡ Some (bindings.Copy copy) → names_at tables copy.cell ≡ inner
    → found ≡ option_map kept_found (walk tables inner (names rest))
    → option_map (λ f. kept_found (seen_through copy f)) found
    ≡ option_map kept_found (walk tables scope (names path))
found_in_copy tables scope path rest {inner} {name} {copy} parts is same kept =
    let through = λ (f : Found). kept_found (seen_through copy f) in
    let walks : walk tables scope (names path) ≡ option_map (seen_through copy)
    (walk tables (names_at tables copy.cell) (names rest)) =
    walk_from tables scope (names path) name (names rest) (bindings.Copy copy) parts is
    ∙ after_copy copy (names rest) _ (has_name rest) in
    ap (option_map through) kept
    ∙ kept_all_through copy (walk tables inner (names rest))
    ∙ ap (λ (table : Names). option_map kept_found (option_map (seen_through copy) (walk tables table (names rest))))
    (sym same)
    ∙ ap (option_map kept_found) (sym walks)

-- a path that goes on after a node or a port
pub found_after : (tables : List Names) (scope : Names) (path rest : List ℕ) {name : List ℕ} {binding : Binding}
    → ((after : List (List ℕ)) (inner : ℕ → Option Found) → 0 < length after
    → walk_on binding after inner ≡ Some Through)
    → names path ≡ name ∷ names rest → named scope name ≡ Some binding
    → Some Through ≡ option_map kept_found (walk tables scope (names path))
found_after tables scope path rest {name} {binding} past parts is =
    ap (option_map kept_found)
    (sym (walk_from tables scope (names path) name (names rest) binding parts is
    ∙ past (names rest) _ (has_name rest)))
