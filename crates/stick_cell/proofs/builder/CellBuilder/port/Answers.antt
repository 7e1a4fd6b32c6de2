use Rattle.std.proofs.Common.{sym, subst, ◌∙◌}
use Rattle.rule_table.specs.declared.classes.Layer.{Layer}
use Rattle.stick_cell.specs.CellBuilder.{IsCellBuilder}
use Rattle.stick_cell.proofs.LineSteps.{grows-memory, grows-residual, port-by}
use Rattle.checked_cells.specs.{Checks.layer_of, CheckedCell.with_port}
use Rattle.stick_cell.proofs.builder.CellBuilder.port.Goals as goal

pub returns-in_err-check_place-clause-grows : goal.returns-in_err-check_place-clause-grows
returns-in_err-check_place-clause-grows c = λ cells known built.
    let a = c.args in
    grows-residual cells c.from_residual.result a.self.now _ c.in_err-check_place.field-0.0 c.from_residual.ensures.1
    (port-by known a.name.now a.side a.layer a.place built.tells.names
    (sym c.in_err-check_place.was ∙ c.check_place.ensures.placed))

pub returns-in_err-add_port-clause-grows : goal.returns-in_err-add_port-clause-grows
returns-in_err-add_port-clause-grows c = λ cells known built.
    let a = c.args in
    grows-memory cells c.from_residual-in_err-add_port.result c.add_port.new.self _
    (with_port known a.name.now a.side (layer_of a.layer) a.place) c.from_residual-in_err-add_port.ensures.1
    (port-by known a.name.now a.side a.layer a.place built.tells.names
    (sym c.in_ok-check_place.was ∙ c.check_place.ensures.placed))

pub returns-clause-grows : goal.returns-clause-grows
returns-clause-grows c = λ cells known built.
    let a = c.args in
    let P : Layer → Type 0 = λ layer. IsCellBuilder cells (with_port known a.name.now a.side layer a.place)
    c.add_port.new.self in (
      with_port known a.name.now a.side (layer_of a.layer) a.place,
      port-by known a.name.now a.side a.layer a.place built.tells.names
          (sym c.in_ok-check_place.was ∙ c.check_place.ensures.placed),
      subst P c.layer_of.ensures (c.in_ok-add_port.ensures.grows cells known built),
    )
