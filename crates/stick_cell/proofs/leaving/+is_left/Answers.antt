use Rattle.std.proofs.Common.{◌≡◌, false, Some, sym, ap, ◌∙◌}
use Rattle.checked_cells.specs.{CheckedCell.known_at, NameEntries.entries_of, Sides.{is_left_in, side_entries, has}}
use Rattle.checked_cells.specs.Sides.{taken_at}
use Rattle.stick_cell.proofs.SidesRead.{left_by_first, left_past, sides_read, none_of, parts_of}
use Rattle.stick_cell.proofs.leaving.+is_left.Goals as goal

pub returns-in_default-copy : goal.returns-in_default-copy
returns-in_default-copy t c = λ cells known are have same sides no_metal.
    let a = c.args in
    let first = c.split_first.result.0.now in
    let none : has (taken_at (side_entries a.table.now.sides) a.path.now) a.layer a.along a.is_low ≡ false =
    ap (λ taken. has taken a.layer a.along a.is_low) (sym c.at.ensures) ∙ sym c.has.ensures ∙ c.if-has.false in
    ap (λ copy. is_left_in cells copy c.in-Some.rest.now a.layer a.along a.is_low)
    (sym (none_of c.copy.result c.in_default-copy.not-Some))
    ∙ left_by_first cells known (side_entries a.table.now.sides) (entries_of a.table.now.names) a.path.now first
    c.in-Some.rest.now c.copy.result a.layer a.along a.is_low sides same no_metal none
    (parts_of a.path.now first c.split_first.result.1 c.in-Some.rest c.split_first.ensures.names c.in-Some.is)
    c.copy.ensures

pub returns-in_default-get : goal.returns-in_default-get
returns-in_default-get t c = λ cells known are have same sides no_metal.
    let a = c.args in
    let first = c.split_first.result.0.now in
    let copy = c.in-Some-copy.copy in
    let none : has (taken_at (side_entries a.table.now.sides) a.path.now) a.layer a.along a.is_low ≡ false =
    ap (λ taken. has taken a.layer a.along a.is_low) (sym c.at.ensures) ∙ sym c.has.ensures ∙ c.if-has.false in
    left_past cells a.tables.now copy.cell c.in-Some.rest.now a.layer a.along a.is_low are
    c.in_default-get.ensures.lookup.3
    ∙ left_by_first cells known (side_entries a.table.now.sides) (entries_of a.table.now.names) a.path.now first
    c.in-Some.rest.now (Some copy) a.layer a.along a.is_low sides same no_metal none
    (parts_of a.path.now first c.split_first.result.1 c.in-Some.rest c.split_first.ensures.names c.in-Some.is)
    (sym c.in-Some-copy.is ∙ c.copy.ensures)

pub returns : goal.returns
returns t c = λ cells known are have same sides no_metal.
    let a = c.args in
    let first = c.split_first.result.0.now in
    let copy = c.in-Some-copy.copy in
    let none : has (taken_at (side_entries a.table.now.sides) a.path.now) a.layer a.along a.is_low ≡ false =
    ap (λ taken. has taken a.layer a.along a.is_low) (sym c.at.ensures) ∙ sym c.has.ensures ∙ c.if-has.false in
    let read = sides_read cells a.tables.now copy.cell c.in-Some-get.used.now are have
    c.in-Some-get.ensures.lookup.3.0 (c.in-Some-get.ensures.lookup.3.1 c.in-Some-get.used.now) in
    c.is_left.ensures cells (known_at cells copy.cell) are have read.0.tells.names read.1 no_metal
    ∙ left_by_first cells known (side_entries a.table.now.sides) (entries_of a.table.now.names) a.path.now first
    c.in-Some.rest.now (Some copy) a.layer a.along a.is_low sides same no_metal none
    (parts_of a.path.now first c.split_first.result.1 c.in-Some.rest c.split_first.ensures.names c.in-Some.is)
    (sym c.in-Some-copy.is ∙ c.copy.ensures)
