use Rattle.std.proofs.Common.{◌≡◌, true, false, refl, sym, ◌∙◌}
use Rattle.stick_text.specs.declared.fault.{StickKind.TheVariants.RepeatedName}
use Rattle.checked_cells.specs.{Lines.is_new_cell}
use Rattle.stick_cell.{proofs.LineLoop.{cell-by, new-cell, fails-at}}
use Rattle.stick_cell.proofs.resolving.resolve_cell.Goals as goal

pub returns-then-is_some : goal.returns-then-is_some
returns-then-is_some c = λ cells are tables have.
    let text = c.args.text.now in
    let fresh : is_new_cell cells text.name ≡ false =
    new-cell cells c.args.tables.now tables c.bytes.ensures c.place_of.ensures
    (sym c.if-is_some.true ∙ c.is_some.ensures) in
    fails-at c.refused.result (record { line = text.line; kind = RepeatedName }) _ c.refused.ensures
    (cell-by c.args.tech.now cells text false _ fresh refl)

pub returns-in-Some : goal.returns-in-Some
returns-in-Some c = λ cells are tables have.
    let text = c.args.text.now in
    let fresh : is_new_cell cells text.name ≡ true =
    new-cell cells c.args.tables.now tables c.bytes.ensures c.place_of.ensures
    (sym c.if-is_some.false ∙ c.is_some.ensures) in
    let ready = rw c.in-Some.is at c.requires.ready in ready cells are fresh

pub returns-in-None : goal.returns-in-None
returns-in-None c = λ cells are tables have.
    let text = c.args.text.now in
    let fresh : is_new_cell cells text.name ≡ true =
    new-cell cells c.args.tables.now tables c.bytes.ensures c.place_of.ensures
    (sym c.if-is_some.false ∙ c.is_some.ensures) in
    c.read_cell.ensures cells are tables have fresh
