use Rattle.std.proofs.Common.{◌≡◌, true, false, refl, sym, ◌∙◌, rules}
use Rattle.rule_table.specs.Technology.{has_buried_of}
use Rattle.cell_model.specs.declared.cell.NodeKind.TheVariants as kinds
use Rattle.checked_cells.specs.{CheckedCell.with_node}
use Rattle.stick_cell.proofs.LineSteps.{grows-memory, grows-residual, buried-by}
use Rattle.stick_cell.proofs.builder.CellBuilder.buried.Goals as goal

pub returns-in_err-check_place-clause-grows : goal.returns-in_err-check_place-clause-grows
returns-in_err-check_place-clause-grows c = λ cells known built.
    let a = c.args in
    grows-residual cells c.from_residual.result a.self.now _ c.in_err-check_place.field-0.0 c.from_residual.ensures.1
    (buried-by a.tech.now known a.name.now a.col a.row built.tells.names
    (sym c.in_err-check_place.was ∙ c.check_place.ensures.placed) refl)

pub returns-then-not-has_buried-clause-grows : goal.returns-then-not-has_buried-clause-grows
returns-then-not-has_buried-clause-grows c = λ cells known built.
    let a = c.args in
    let b : has_buried_of a.tech.now ≡ false = search rules in
    buried-by a.tech.now known a.name.now a.col a.row built.tells.names
    (sym c.in_ok-check_place.was ∙ c.check_place.ensures.placed) b

pub returns-in_err-add_node-clause-grows : goal.returns-in_err-add_node-clause-grows
returns-in_err-add_node-clause-grows c = λ cells known built.
    let a = c.args in
    let b : has_buried_of a.tech.now ≡ true = search rules in
    grows-memory cells c.from_residual-in_err-add_node.result c.add_node.new.self _
    (with_node known a.name.now kinds.Buried a.col a.row) c.from_residual-in_err-add_node.ensures.1
    (buried-by a.tech.now known a.name.now a.col a.row built.tells.names
    (sym c.in_ok-check_place.was ∙ c.check_place.ensures.placed) b)

pub returns-clause-grows : goal.returns-clause-grows
returns-clause-grows c = λ cells known built.
    let a = c.args in
    let b : has_buried_of a.tech.now ≡ true = search rules in (
      with_node known a.name.now kinds.Buried a.col a.row,
      buried-by a.tech.now known a.name.now a.col a.row built.tells.names
          (sym c.in_ok-check_place.was ∙ c.check_place.ensures.placed) b,
      c.in_ok-add_node.ensures.grows cells known built,
    )
