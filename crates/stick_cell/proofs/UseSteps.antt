-- What the line of a use gives, by its tests.
use Rattle.std.proofs.Common.{◌≡◌, ℕ, ◌+◌, ◌<◌, nat_lt, Bool, true, false, not, ◌&&◌, ◌==◌, List, length, get_or}
use Rattle.std.proofs.{Common.{Option, Some, Result, Ok, refl, sym, ap, ◌∙◌}, lemmas.List.length-map}
use Rattle.std.specs.Prelude.{bytes_eq, position}
use Rattle.stick_text.specs.declared.fault.StickKind.{StickKind, TheVariants.{RepeatedName, UseCycle, UseDepth}}
use Rattle.stick_text.specs.{declared.fault.StickKind.TheVariants.{UsedPorts, FarPlace}, Reading.{◌>>=◌, demand}}
use Rattle.stick_cell.specs.{declared.builder.CellBuilder.CellBuilder, CellBuilder.{IsCellBuilder, usable}}
use Rattle.stick_cell.proofs.LineSteps.{is_fresh-capped}
use Rattle.checked_cells.specs.{declared.table.Table.Table, Checks.{is_fresh, is_place}, CheckedCell.CheckedCell}
use Rattle.checked_cells.specs.{CheckedCell.{known_at, with_copy, greatest_col, greatest_row}, Lines.number_of}
use Rattle.checked_cells.specs.{Lines.{known_number, is_empty, with_use, after_use}, Ports.{port_of, is_light}}
use Rattle.checked_cells.specs.{Tables.{IsTableOf, AreTables}, NameEntries.entries_of}
use Rattle.checked_cells.proofs.TableReads.{table_at, position-name, number-lt}

-- a use by what its first three tests give
pub use-by : (cells : List CheckedCell) (known : CheckedCell) (builder : CellBuilder) (name cell : List ℕ)
    (col row : ℕ) {fresh other : Bool} {number : Option ℕ} → IsCellBuilder cells known builder
    → is_fresh (entries_of builder.table.names) name ≡ fresh → not (bytes_eq cell builder.table.name.now) ≡ other
    → number_of cells cell ≡ number
    → after_use cells known name cell col row
    ≡ (demand fresh RepeatedName
    >>= (λ _. demand other UseCycle
    >>= (λ _. known_number number >>= (λ k. with_use known name k (known_at cells k) col row))))
unfolding after_use
use-by cells known builder name cell col row built is_new is_other is_number =
    let new = sym (is_fresh-capped known.names name) ∙ ap (λ names. is_fresh names name) (sym built.tells.names)
    ∙ is_new in
    let apart = ap (λ text. not (bytes_eq cell text)) (sym built.tells.name) ∙ is_other in
    rw (← new, ← apart, ← is_number) refl

three_demands : {A : Type 0} (a b c : Bool) (j k l : StickKind) (x : A)
    → (demand a j >>= (λ _. demand b k >>= (λ _. demand c l >>= (λ _. Ok x))))
    ≡ ((demand a j >>= (λ _. demand b k >>= (λ _. demand c l))) >>= (λ _. Ok x))
three_demands true true c j k l x = refl
three_demands true false c j k l x = refl
three_demands false b c j k l x = refl

-- and by the tests of the used cell
pub with_use-by : (known : CheckedCell) (name : List ℕ) (k : ℕ) (used : CheckedCell) (col row : ℕ)
    (r : Result (Unit {0}) StickKind)
    → r ≡ usable (is_empty used.plugs) used.depth (col + greatest_col used.nodes) (row + greatest_row used.nodes)
    → with_use known name k used col row ≡ (r >>= (λ _. Ok (with_copy known name k used col row)))
unfolding with_use usable
with_use-by known name k used col row r is =
    three_demands (is_empty used.plugs) (nat_lt used.depth 16)
    (is_place (col + greatest_col used.nodes) && is_place (row + greatest_row used.nodes)) UsedPorts UseDepth
    FarPlace (with_copy known name k used col row)
    ∙ ap (λ r. r >>= (λ _. Ok (with_copy known name k used col row))) (sym is)

-- the tests of the used cell, from its table
pub usable-table : (used : CheckedCell) (table : Table) (col row : ℕ) → IsTableOf used table
    → usable (length table.ports.items == 0) table.depth (col + table.most_col) (row + table.most_row)
    ≡ usable (is_empty used.plugs) used.depth (col + greatest_col used.nodes) (row + greatest_row used.nodes)
usable-table used table col row is =
    let ports : length table.ports.items ≡ length used.plugs = ap length is.ports
    ∙ length-map used.plugs (port_of (is_light used)) in
    rw (ports, is.tells.depth, is.tells.most_col, is.tells.most_row) refl

-- the use of a cell that is there, by the tests of its table
pub use-found : (cells : List CheckedCell) (known : CheckedCell) (tables : List Table) (builder : CellBuilder)
    (name cell : List ℕ) (col row : ℕ) {place : ℕ} {table : Table} {r : Result (Unit {0}) StickKind}
    → AreTables cells tables → IsCellBuilder cells known builder
    → is_fresh (entries_of builder.table.names) name ≡ true → not (bytes_eq cell builder.table.name.now) ≡ true
    → position (λ (table : Table). bytes_eq cell table.name.now) tables ≡ Some place → table ≡ get_or tables place table
    → r ≡ usable (length table.ports.items == 0) table.depth (col + table.most_col) (row + table.most_row)
    → (after_use cells known name cell col row
    ≡ (r >>= (λ _. Ok (with_copy known name place (known_at cells place) col row)))) × IsTableOf (known_at cells
    place) table × (place < length cells)
use-found cells known tables builder name cell col row {place} {table} {r} are built fresh other found at checked =
    let number : number_of cells cell ≡ Some place = sym (position-name cells tables cell are) ∙ found in
    let is : IsTableOf (known_at cells place) table =
    table_at cells tables place table are (number-lt cells cell place number) at in (
      use-by cells known builder name cell col row built fresh other number
          ∙ with_use-by known name place (known_at cells place) col row r
          (checked ∙ usable-table (known_at cells place) table col row is),
      is,
      number-lt cells cell place number,
    )
