use Rattle.std.proofs.Common.{◌≡◌, ℕ, ◌<◌, ◌≤◌, List, [], ◌∷◌, length, get_or, map, Option, option_map, option_copied}
use Rattle.std.proofs.Common.{Some, Bor, inl, inr, sym, ap, ◌∙◌, arith}
use Rattle.std.proofs.lemmas.List.{get_or_past, get_or-map, length-map}
use Rattle.stick_lex.specs.Tokens.{names}
use Rattle.checked_cells.specs.{declared.table.Table.Table, Paths.{Names, names_at, names_after}}
use Rattle.checked_cells.specs.{NameEntries.entries_of, Kept.kept_found}
use Rattle.stick_cell.proofs.Composed.{walk_nothing, found_in_copy, found_after, after_node, after_port}
use Rattle.stick_cell.proofs.paths.+found_at.Goals as goal

abbrev names_of : List Table → List Names
names_of tables = map (λ table. entries_of table.names) tables

-- a table that is there
at_table : (tables : List Table) (k : ℕ) (table : Table) → k < length tables → table ≡ get_or tables k table
    → names_at (names_of tables) k ≡ entries_of table.names
at_table tables k table lt is = get_or-map (λ (t : Table). entries_of t.names) tables k table [] lt
    ∙ ap (λ (t : Table). entries_of t.names) (sym is)

-- one that is not has no names
past_tables : (tables : List Table) (k : ℕ) → length tables ≤ k → names_at (names_of tables) k ≡ []
past_tables tables k past =
    get_or_past (names_of tables) k [] (omega (arith, length-map tables (λ (t : Table). entries_of t.names)))

-- the names of a path whose first name has something after it
parts : (path : List ℕ) {first : List ℕ} {after : Option (Bor (List ℕ))} {rest : Bor (List ℕ)}
    → names path ≡ first ∷ names_after (option_copied after) → after ≡ Some rest → names path ≡ first ∷ names rest.now
parts path {first} e is = e ∙ ap (λ (b : Option (Bor (List ℕ))). first ∷ names_after (option_copied b)) is

pub returns-in_err-table-in-Copy : goal.returns-in_err-table-in-Copy
returns-in_err-table-in-Copy t c =
    let tables = c.args.tables.now in
    let copy = c.in-Copy.copy in
    let rest = c.in-Some.rest.now in
    c.from_residual-in_err-table-in-Copy.ensures
    ∙ found_in_copy (names_of tables) (entries_of c.args.scope.now) c.args.path.now rest
    (parts c.args.path.now c.split_first.ensures.names c.in-Some.is)
    (sym c.in_ok-binding.ensures ∙ ap Some c.in-Copy.is)
    (past_tables tables copy.cell c.in_err-table-in-Copy.ensures.lookup.3)
    (ap (option_map kept_found) (sym (walk_nothing (names_of tables) (names rest))))

pub returns-in_err-found-in-Copy : goal.returns-in_err-found-in-Copy
returns-in_err-found-in-Copy t c =
    let tables = c.args.tables.now in
    let copy = c.in-Copy.copy in
    let table = c.in_ok-table-in-Copy.table.now in
    c.from_residual-in_err-found-in-Copy.ensures
    ∙ found_in_copy (names_of tables) (entries_of c.args.scope.now) c.args.path.now c.in-Some.rest.now
    (parts c.args.path.now c.split_first.ensures.names c.in-Some.is)
    (sym c.in_ok-binding.ensures ∙ ap Some c.in-Copy.is)
    (at_table tables copy.cell table c.in_ok-table-in-Copy.ensures.lookup.3.0
    (c.in_ok-table-in-Copy.ensures.lookup.3.1 table))
    c.in_err-found-in-Copy.ensures

pub returns-in-Node : goal.returns-in-Node
returns-in-Node t c =
    let tables = names_of c.args.tables.now in
    let scope = entries_of c.args.scope.now in
    let split = parts c.args.path.now c.split_first.ensures.names c.in-Some.is in
    elim c.in-Node.is [
      | inl node ↦ found_after tables scope c.args.path.now c.in-Some.rest.now (after_node node.0) split
          (sym c.in_ok-binding.ensures ∙ ap Some node.1)
      | inr port ↦ found_after tables scope c.args.path.now c.in-Some.rest.now (after_port port.0) split
          (sym c.in_ok-binding.ensures ∙ ap Some port.1)
    ]

pub returns-in_ok-found-in-Copy : goal.returns-in_ok-found-in-Copy
returns-in_ok-found-in-Copy t c =
    let tables = c.args.tables.now in
    let copy = c.in-Copy.copy in
    let table = c.in_ok-table-in-Copy.table.now in
    ap Some c.seen_through.ensures
    ∙ found_in_copy (names_of tables) (entries_of c.args.scope.now) c.args.path.now c.in-Some.rest.now
    (parts c.args.path.now c.split_first.ensures.names c.in-Some.is)
    (sym c.in_ok-binding.ensures ∙ ap Some c.in-Copy.is)
    (at_table tables copy.cell table c.in_ok-table-in-Copy.ensures.lookup.3.0
    (c.in_ok-table-in-Copy.ensures.lookup.3.1 table))
    c.in_ok-found-in-Copy.ensures
