use Rattle.std.proofs.Common.{◌≡◌, refl, sym, ap, subst, ◌∙◌, rules, w64, to_z, of_z}
use Rattle.cell_model.specs.declared.cell.NodeKind.{NodeKind}
use Rattle.cell_model.specs.declared.cell.NodeKind.TheVariants as kinds
use Rattle.stick_cell.specs.CellBuilder.{IsCellBuilder}
use Rattle.stick_cell.proofs.LineSteps.{grows-memory, grows-residual, joint-by}
use Rattle.checked_cells.specs.{Checks.{layer_of, sized}, CheckedCell.with_node}
use Rattle.stick_cell.proofs.builder.CellBuilder.joint.Goals as goal

pub returns-in_err-check_place-clause-grows : goal.returns-in_err-check_place-clause-grows
returns-in_err-check_place-clause-grows c = λ cells known built.
    let a = c.args in
    grows-residual cells c.from_residual.result a.self.now _ c.in_err-check_place.field-0.0 c.from_residual.ensures.1
    (joint-by a.tech.now known a.name.now a.layer a.col a.row a.width built.tells.names
    (sym c.in_err-check_place.was ∙ c.check_place.ensures.placed) refl)

pub returns-in_err-width-clause-grows : goal.returns-in_err-width-clause-grows
returns-in_err-width-clause-grows c = λ cells known built.
    let a = c.args in
    let k = c.in_err-width.field-0.0 in
    grows-residual cells c.from_residual-in_err-width.result a.self.now _ k c.from_residual-in_err-width.ensures.1
    (joint-by a.tech.now known a.name.now a.layer a.col a.row a.width built.tells.names
    (sym c.in_ok-check_place.was ∙ c.check_place.ensures.placed)
    (ap (λ layer. sized a.tech.now layer a.width) (sym c.layer_of-layer.ensures) ∙ sym c.sized.ensures
    ∙ c.in_err-width.was))

pub returns-in_err-add_node-clause-grows : goal.returns-in_err-add_node-clause-grows
returns-in_err-add_node-clause-grows c = λ cells known built.
    let a = c.args in
    let width = c.in_ok-width.width in
    grows-memory cells c.from_residual-in_err-add_node.result c.add_node.new.self _
    (with_node known a.name.now (kinds.Joint (layer_of a.layer) width) a.col a.row)
    c.from_residual-in_err-add_node.ensures.1
    (joint-by a.tech.now known a.name.now a.layer a.col a.row a.width built.tells.names
    (sym c.in_ok-check_place.was ∙ c.check_place.ensures.placed)
    (ap (λ layer. sized a.tech.now layer a.width) (sym c.layer_of-layer.ensures) ∙ sym c.sized.ensures
    ∙ c.in_ok-width.was))

pub returns-clause-grows : goal.returns-clause-grows
returns-clause-grows c = λ cells known built.
    let a = c.args in
    let width = c.in_ok-width.width in
    let held : to_z w64 (of_z w64 width) ≡ width = search rules in
    let kind : kinds.Joint c.layer_of-layer.result (to_z w64 (of_z w64 width)) ≡ kinds.Joint (layer_of a.layer) width =
    ap (λ layer. kinds.Joint layer (to_z w64 (of_z w64 width))) c.layer_of-layer.ensures
    ∙ ap (λ size. kinds.Joint (layer_of a.layer) size) held in
    let P : NodeKind → Type 0 = λ kind. IsCellBuilder cells (with_node known a.name.now kind a.col a.row)
    c.add_node.new.self in (
      with_node known a.name.now (kinds.Joint (layer_of a.layer) width) a.col a.row,
      joint-by a.tech.now known a.name.now a.layer a.col a.row a.width built.tells.names
          (sym c.in_ok-check_place.was ∙ c.check_place.ensures.placed)
          (ap (λ layer. sized a.tech.now layer a.width) (sym c.layer_of-layer.ensures) ∙ sym c.sized.ensures
          ∙ c.in_ok-width.was),
      subst P kind (c.in_ok-add_node.ensures.grows cells known built),
    )
