use Rattle.std.proofs.Common.{◌≡◌, true, false, refl, sym, ap, subst, ◌∙◌, rules, w64, to_z, of_z}
use Rattle.std.specs.Prelude.{pos}
use Rattle.cell_model.specs.declared.cell.NodeKind.{NodeKind}
use Rattle.cell_model.specs.declared.cell.NodeKind.TheVariants as kinds
use Rattle.stick_cell.specs.CellBuilder.{IsCellBuilder}
use Rattle.stick_cell.proofs.LineSteps.{grows-memory, grows-residual, fet-by}
use Rattle.checked_cells.specs.{Checks.is_channel, Lines.axis_where, CheckedCell.with_node}
use Rattle.stick_cell.proofs.builder.CellBuilder.fet.Goals as goal

pub returns-in_err-check_place-clause-grows : goal.returns-in_err-check_place-clause-grows
returns-in_err-check_place-clause-grows c = λ cells known built.
    let a = c.args in
    grows-residual cells c.from_residual.result a.self.now _ c.in_err-check_place.field-0.0 c.from_residual.ensures.1
    (fet-by a.tech.now known a.name.now a.depletion a.vertical a.col a.row a.w a.l built.tells.names
    (sym c.in_err-check_place.was ∙ c.check_place.ensures.placed) refl)

pub returns-then-not-is_channel-clause-grows : goal.returns-then-not-is_channel-clause-grows
returns-then-not-is_channel-clause-grows c = λ cells known built.
    let a = c.args in
    let b : is_channel a.tech.now a.w a.l ≡ false = search rules in
    fet-by a.tech.now known a.name.now a.depletion a.vertical a.col a.row a.w a.l built.tells.names
    (sym c.in_ok-check_place.was ∙ c.check_place.ensures.placed) b

pub returns-in_err-add_node-clause-grows : goal.returns-in_err-add_node-clause-grows
returns-in_err-add_node-clause-grows c = λ cells known built.
    let a = c.args in
    let b : is_channel a.tech.now a.w a.l ≡ true = search rules in
    grows-memory cells c.from_residual-in_err-add_node.result c.add_node.new.self _
    (with_node known a.name.now (kinds.Fet a.depletion (axis_where a.vertical) (pos a.w) (pos a.l)) a.col a.row)
    c.from_residual-in_err-add_node.ensures.1
    (fet-by a.tech.now known a.name.now a.depletion a.vertical a.col a.row a.w a.l built.tells.names
    (sym c.in_ok-check_place.was ∙ c.check_place.ensures.placed) b)

pub returns-clause-grows : goal.returns-clause-grows
returns-clause-grows c = λ cells known built.
    let a = c.args in
    let b : is_channel a.tech.now a.w a.l ≡ true = search rules in
    let w : to_z w64 (of_z w64 c.from.result) ≡ pos a.w = search rules in
    let l : to_z w64 (of_z w64 c.from-2.result) ≡ pos a.l = search rules in
    let kind : kinds.Fet a.depletion c.axis_where.result (to_z w64 (of_z w64 c.from.result))
    (to_z w64 (of_z w64 c.from-2.result)) ≡ kinds.Fet a.depletion (axis_where a.vertical) (pos a.w) (pos a.l) =
    ap (λ gate. kinds.Fet a.depletion gate (to_z w64 (of_z w64 c.from.result)) (to_z w64 (of_z w64 c.from-2.result)))
    c.axis_where.ensures
    ∙ ap (λ w. kinds.Fet a.depletion (axis_where a.vertical) w (to_z w64 (of_z w64 c.from-2.result))) w
    ∙ ap (λ l. kinds.Fet a.depletion (axis_where a.vertical) (pos a.w) l) l in
    let P : NodeKind → Type 0 = λ kind. IsCellBuilder cells (with_node known a.name.now kind a.col a.row)
    c.add_node.new.self in (
      with_node known a.name.now (kinds.Fet a.depletion (axis_where a.vertical) (pos a.w) (pos a.l)) a.col a.row,
      fet-by a.tech.now known a.name.now a.depletion a.vertical a.col a.row a.w a.l built.tells.names
          (sym c.in_ok-check_place.was ∙ c.check_place.ensures.placed) b,
      subst P kind (c.in_ok-add_node.ensures.grows cells known built),
    )
