use Rattle.std.proofs.{Common.{◌≡◌, Some, sym, ◌∙◌, arith}, Math.Facts.Fits-of_lt}
use Rattle.checked_cells.specs.{Lines.number_of, Tables.known_of}
use Rattle.checked_cells.proofs.TableReads.{number_found, number-lt, few_known}
use Rattle.checked_cells.proofs.cells.Cells.find.Goals as goal

-- the place is the cell's number
is_number : (c : goal.In_ok-place) → Some c.in_ok-place.place ≡ number_of (known_of c.args.self.now) c.args.name.now
is_number c = sym c.in_ok-place.was
    ∙ number_found (known_of c.args.self.now) c.args.self.now.tables.items c.as_slice.result.now c.args.name.now
    c.place_of.result c.requires.tables c.as_slice.ensures.value c.place_of.ensures

pub returns-in_err-place-clause-value : goal.returns-in_err-place-clause-value
returns-in_err-place-clause-value c =
    c.from_residual.ensures ∙ sym c.in_err-place.was
    ∙ number_found (known_of c.args.self.now) c.args.self.now.tables.items c.as_slice.result.now c.args.name.now
    c.place_of.result c.requires.tables c.as_slice.ensures.value c.place_of.ensures

pub overflow_cast-result : goal.overflow_cast-result
overflow_cast-result c =
    let lt = number-lt (known_of c.args.self.now) c.args.name.now c.in_ok-place.place (sym (is_number c)) in
    Fits-of_lt (omega (arith, lt, few_known c.args.self.now c.requires))

pub returns-clause-value : goal.returns-clause-value
returns-clause-value c = is_number c

pub returns-clause-within : goal.returns-clause-within
returns-clause-within c = number-lt (known_of c.args.self.now) c.args.name.now c.in_ok-place.place (sym (is_number c))
