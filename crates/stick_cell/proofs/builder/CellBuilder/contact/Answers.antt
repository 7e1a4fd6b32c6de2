use Rattle.std.proofs.Common.{sym, ap, subst, ◌∙◌}
use Rattle.cell_model.specs.declared.cell.NodeKind.{NodeKind}
use Rattle.cell_model.specs.declared.cell.NodeKind.TheVariants as kinds
use Rattle.stick_cell.specs.CellBuilder.{IsCellBuilder}
use Rattle.stick_cell.proofs.LineSteps.{grows-memory, grows-residual, contact-by}
use Rattle.checked_cells.specs.{Checks.layer_of, CheckedCell.with_node}
use Rattle.stick_cell.proofs.builder.CellBuilder.contact.Goals as goal

pub returns-in_err-check_place-clause-grows : goal.returns-in_err-check_place-clause-grows
returns-in_err-check_place-clause-grows c = λ cells known built.
    let a = c.args in
    grows-residual cells c.from_residual.result a.self.now _ c.in_err-check_place.field-0.0 c.from_residual.ensures.1
    (contact-by known a.name.now a.lower a.col a.row built.tells.names
    (sym c.in_err-check_place.was ∙ c.check_place.ensures.placed))

pub returns-in_err-add_node-clause-grows : goal.returns-in_err-add_node-clause-grows
returns-in_err-add_node-clause-grows c = λ cells known built.
    let a = c.args in
    grows-memory cells c.from_residual-in_err-add_node.result c.add_node.new.self _
    (with_node known a.name.now (kinds.Contact (layer_of a.lower)) a.col a.row)
    c.from_residual-in_err-add_node.ensures.1
    (contact-by known a.name.now a.lower a.col a.row built.tells.names
    (sym c.in_ok-check_place.was ∙ c.check_place.ensures.placed))

pub returns-clause-grows : goal.returns-clause-grows
returns-clause-grows c = λ cells known built.
    let a = c.args in
    let P : NodeKind → Type 0 = λ kind. IsCellBuilder cells (with_node known a.name.now kind a.col a.row)
    c.add_node.new.self in (
      with_node known a.name.now (kinds.Contact (layer_of a.lower)) a.col a.row,
      contact-by known a.name.now a.lower a.col a.row built.tells.names
          (sym c.in_ok-check_place.was ∙ c.check_place.ensures.placed),
      subst P (ap kinds.Contact c.layer_of-lower.ensures) (c.in_ok-add_node.ensures.grows cells known built),
    )
