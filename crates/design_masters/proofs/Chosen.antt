-- What holds of each cell that a design's grids name.
use Rattle.std.proofs.Common.{◌≡◌, ◌≢◌, ℕ, ◌≤◌, Bool, true, false, Option, Some, None, List, [], ◌∷◌, length, get_or}
use Rattle.std.proofs.{Common.{refl, sym, ap, ◌∙◌, subst, arith}, lemmas.Bool.{true≢false, Decides.nat_tests}}
use Rattle.std.proofs.lemmas.{List.Quantifiers.position-Some, Slice.Eq.bytes_eq-Decides}
use Rattle.std.specs.{Prelude.{All, nat_le, ◌&&◌, bytes_eq, is_none, unwrap_or, if◌then◌else◌}, List.AllByRecursion}
use Rattle.std.specs.{List.{flat_map, list_all}, Char.is_ascii_alphabetic, Option.option_or}
use Rattle.list_facts.proofs.Elements.{all_at, all_flat, all_map, all_of, by_number}
use Rattle.stick_lex.specs.Tokens.{is_name_byte}
use Rattle.stick_text.specs.declared.design.{GridText.GridText, RowText.RowText}
use Rattle.stick_text.specs.{declared.fault.GridFault.TheVariants.UnknownCell, Writable.{IsName, IsRow, IsGrid}}
use Rattle.checked_cells.specs.{CheckedCell.{CheckedCell, known_at, begun}, Lines.number_of}
use Rattle.pitch_join.proofs.Lists.{all_firsts}
use Rattle.grid_plan.specs.Faults.{unknown_cell, unknown_in_row, unknown_in, ragged_in, misfit_in, fault_of_rows}
use Rattle.grid_plan.specs.{Faults.{grid_fault, numbered_fault, plan_fault}, Numbered.{cell_named, numbers_in_row}}
use Rattle.grid_plan.specs.Numbered.{numbers_in_grid, ports_of_cells, is_same_number, masters_in}
use Rattle.grid_plan.proofs.{GridsFit.no_image, GridsRead.{both_none, nowhere}}

-- what a name has to give of the cell with the name
abbrev pub OfNamed : List CheckedCell → (ℕ → Type 0) → Type 0
OfNamed cells P = (name : List ℕ) (k : ℕ) → IsName name → number_of cells name ≡ Some k → P k

-- a name that is not unknown has a number
of_found : (P : ℕ → Type 0) (row col : ℕ) (found : Option ℕ)
    → (if is_none found then Some (UnknownCell row col) else None) ≡ None → ((k : ℕ) → found ≡ Some k → P k)
    → P (unwrap_or found 0)
of_found P row col None none step = cc
of_found P row col (Some k) none step = step k refl

of_name : (P : ℕ → Type 0) (cells : List CheckedCell) (row col : ℕ) (name : List ℕ)
    → unknown_cell cells row col name ≡ None → ((k : ℕ) → number_of cells name ≡ Some k → P k)
    → P (cell_named cells name)
of_name P cells row col name none step = of_found P row col (number_of cells name) none step

in_row : (P : ℕ → Type 0) (cells : List CheckedCell) → OfNamed cells P → (row : ℕ) (text : RowText) → IsRow text
    → unknown_in_row cells row text ≡ None → AllByRecursion P (numbers_in_row cells text)
in_row P cells step row text is none =
    all_map P (cell_named cells) text.names
    (by_number (λ name. P (cell_named cells name)) text.names []
    (λ c lt.
    let name = get_or text.names c [] in
    of_name P cells row c name (nowhere (unknown_cell cells row) text.names none c [] lt)
    (λ k e. step name k (all_at IsName text.names [] c is.1 lt) e)))

in_rows : (P : ℕ → Type 0) (cells : List CheckedCell) → OfNamed cells P → (rows : List RowText)
    → AllByRecursion IsRow rows → unknown_in cells rows ≡ None
    → AllByRecursion P (flat_map (numbers_in_row cells) rows)
in_rows P cells step rows are none =
    all_flat P (numbers_in_row cells) rows
    (by_number (λ row. AllByRecursion P (numbers_in_row cells row)) rows no_row
    (λ r lt. in_row P cells step r (get_or rows r no_row) (all_at IsRow rows no_row r are lt)
    (nowhere (unknown_in_row cells) rows none r no_row lt)))
  where
    no_row : RowText
    no_row = record { names = [] }

in_grid : (P : ℕ → Type 0) (cells : List CheckedCell) → OfNamed cells P → (grid : GridText) (rows : List RowText)
    → AllByRecursion IsRow rows → fault_of_rows cells grid rows ≡ None
    → AllByRecursion P (flat_map (numbers_in_row cells) rows)
in_grid P cells step grid [] are none = cc
in_grid P cells step grid (row ∷ rows) are none =
    in_rows P cells step (row ∷ rows) are
    (both_none (unknown_in cells (row ∷ rows))
    (option_or (ragged_in (row ∷ rows)) (misfit_in (ports_of_cells cells) (numbers_in_grid cells grid))) none).0

pub chosen : (P : ℕ → Type 0) (cells : List CheckedCell) (grids : List GridText) → OfNamed cells P
    → AllByRecursion IsGrid grids → plan_fault cells grids ≡ None → All P (masters_in cells grids)
unfolding plan_fault
chosen P cells grids step are none =
    let numbers : List ℕ = flat_map (λ (grid : GridText). flat_map (numbers_in_row cells) grid.rows) grids in
    let each : AllByRecursion P numbers =
    all_flat P (λ (grid : GridText). flat_map (numbers_in_row cells) grid.rows) grids
    (by_number (λ (grid : GridText). AllByRecursion P (flat_map (numbers_in_row cells) grid.rows)) grids no_grid
    (λ g lt.
    let grid = get_or grids g no_grid in
    in_grid P cells step grid grid.rows (all_at IsGrid grids no_grid g are lt).1
    (no_image _ (grid_fault cells grid) (nowhere (numbered_fault cells) grids none g no_grid lt)))) in
    all_of P (masters_in cells grids) (all_firsts P is_same_number numbers each)
  where
    no_grid : GridText
    no_grid = record { name = None; line = 0; rows = [] }

-- what holds of each name holds of the name of the cell that is found by a name
pub of_own_name : (P : List ℕ → Type 0) (cells : List CheckedCell) → ((name : List ℕ) → IsName name → P name)
    → OfNamed cells (λ k. P (known_at cells k).name)
of_own_name P cells each name k is found =
    let test = (position-Some (λ (cell : CheckedCell). bytes_eq name cell.name) cells k (begun []) found).1 in
    let same : name ≡ (known_at cells k).name = (bytes_eq-Decides name (known_at cells k).name).0 test in
    subst P same (each name is)

-- ---- names

both_true : (a b : Bool) → (a && b) ≡ true → (a ≡ true) × (b ≡ true)
both_true true b e = (refl, e)
both_true false b e = cc

-- a name fits into a line
pub short_name : (name : List ℕ) → IsName name → length name ≤ 65000
short_name [] is = cc
short_name (b ∷ bs) is =
    let few =
    (both_true (nat_le (length bs) 31) (list_all is_name_byte bs)
    (both_true (is_ascii_alphabetic b) (nat_le (length bs) 31 && list_all is_name_byte bs) is).1).0 in
    grind (arith, nat_tests, few)

-- a byte that passes a test that a semicolon fails
no_semicolon : (test : ℕ → Bool) → test 59 ≡ false → (b : ℕ) → test b ≡ true → b ≢ 59
no_semicolon test fails b passes e = true≢false (sym passes ∙ (ap test e ∙ fails))

plain_bytes : (bs : List ℕ) → list_all is_name_byte bs ≡ true → AllByRecursion (λ b. b ≢ 59) bs
plain_bytes [] all = tt
plain_bytes (b ∷ bs) all =
    let h = both_true (is_name_byte b) (list_all is_name_byte bs) all in
    (no_semicolon is_name_byte refl b h.0, plain_bytes bs h.1)

-- the letters, digits and underscores of a name are no semicolons
pub plain_name : (name : List ℕ) → IsName name → All (λ b. b ≢ 59) name
plain_name [] is = cc
plain_name (b ∷ bs) is =
    let h = both_true (is_ascii_alphabetic b) (nat_le (length bs) 31 && list_all is_name_byte bs) is in
    let rest = both_true (nat_le (length bs) 31) (list_all is_name_byte bs) h.1 in
    all_of (λ c. c ≢ 59) (b ∷ bs) (no_semicolon is_ascii_alphabetic refl b h.0, plain_bytes bs rest.1)
