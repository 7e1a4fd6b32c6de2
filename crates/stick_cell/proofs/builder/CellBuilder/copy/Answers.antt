use Rattle.std.{proofs.Common.{◌≡◌, true, false, not, None, refl, sym, ◌∙◌, rules}, specs.Prelude.bytes_eq}
use Rattle.checked_cells.specs.{Checks.is_fresh, CheckedCell.{known_at, with_copy}}
use Rattle.checked_cells.{specs.NameEntries.entries_of, proofs.TableReads.position-name}
use Rattle.stick_cell.proofs.{LineSteps.{grows-memory, grows-residual}, UseSteps.{use-by, use-found}}
use Rattle.stick_cell.proofs.builder.CellBuilder.copy.Goals as goal

pub returns-then-not-is_fresh-clause-grows : goal.returns-then-not-is_fresh-clause-grows
returns-then-not-is_fresh-clause-grows c = λ cells known are built.
    let a = c.args in
    let fresh : is_fresh (entries_of a.self.now.table.names) a.name.now ≡ false = search rules in
    use-by cells known a.self.now a.name.now a.cell.now a.col a.row built fresh refl refl

pub returns-then-eq-clause-grows : goal.returns-then-eq-clause-grows
returns-then-eq-clause-grows c = λ cells known are built.
    let a = c.args in
    let fresh : is_fresh (entries_of a.self.now.table.names) a.name.now ≡ true = search rules in
    let same : not (bytes_eq a.cell.now a.self.now.table.name.now) ≡ false = search rules in
    use-by cells known a.self.now a.name.now a.cell.now a.col a.row built fresh same refl

pub returns-in_default-clause-grows : goal.returns-in_default-clause-grows
returns-in_default-clause-grows c = λ cells known are built.
    let a = c.args in
    let fresh : is_fresh (entries_of a.self.now.table.names) a.name.now ≡ true = search rules in
    let other : not (bytes_eq a.cell.now a.self.now.table.name.now) ≡ true = search rules in
    let none : c.place_of.result ≡ None = search rules in
    use-by cells known a.self.now a.name.now a.cell.now a.col a.row built fresh other
    (sym (position-name cells a.tables.now a.cell.now are) ∙ sym c.place_of.ensures ∙ none)

pub returns-in_err-check_use-clause-grows : goal.returns-in_err-check_use-clause-grows
returns-in_err-check_use-clause-grows c = λ cells known are built.
    let a = c.args in
    let fresh : is_fresh (entries_of a.self.now.table.names) a.name.now ≡ true = search rules in
    let other : not (bytes_eq a.cell.now a.self.now.table.name.now) ≡ true = search rules in
    let k = c.in_err-check_use.field-0.0 in
    grows-residual cells c.from_residual.result a.self.now _ k c.from_residual.ensures.1
    (use-found cells known a.tables.now a.self.now a.name.now a.cell.now a.col a.row are built fresh other
    (sym c.in-Some.ensures) c.index-tables-place.is (sym c.in_err-check_use.was ∙ c.check_use.ensures.usable)).0

pub returns-in_err-add_copy-clause-grows : goal.returns-in_err-add_copy-clause-grows
returns-in_err-add_copy-clause-grows c = λ cells known are built.
    let a = c.args in
    let fresh : is_fresh (entries_of a.self.now.table.names) a.name.now ≡ true = search rules in
    let other : not (bytes_eq a.cell.now a.self.now.table.name.now) ≡ true = search rules in
    let place = c.in-Some.place in
    let found = use-found cells known a.tables.now a.self.now a.name.now a.cell.now a.col a.row are built fresh other
    (sym c.in-Some.ensures) c.index-tables-place.is (sym c.in_ok-check_use.was ∙ c.check_use.ensures.usable) in
    grows-memory cells c.from_residual-in_err-add_copy.result c.add_copy.new.self _
    (with_copy known a.name.now place (known_at cells place) a.col a.row)
    c.from_residual-in_err-add_copy.ensures.1 found.0

pub returns-clause-grows : goal.returns-clause-grows
returns-clause-grows c = λ cells known are built.
    let a = c.args in
    let fresh : is_fresh (entries_of a.self.now.table.names) a.name.now ≡ true = search rules in
    let other : not (bytes_eq a.cell.now a.self.now.table.name.now) ≡ true = search rules in
    let place = c.in-Some.place in
    let found = use-found cells known a.tables.now a.self.now a.name.now a.cell.now a.col a.row are built fresh other
    (sym c.in-Some.ensures) c.index-tables-place.is (sym c.in_ok-check_use.was ∙ c.check_use.ensures.usable) in (
      with_copy known a.name.now place (known_at cells place) a.col a.row,
      found.0,
      c.in_ok-add_copy.ensures.grows
          cells known built found.2 found.1,
    )
