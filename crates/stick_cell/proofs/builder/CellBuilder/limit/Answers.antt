use Rattle.std.proofs.{Common.{to_z, of_z, w64}, lemmas.Int.to_z-of_z}
use Rattle.checked_cells.specs.{CheckedCell.with_limit, Lines.axis_where}
use Rattle.stick_cell.proofs.{LineSteps.{grows-memory, grows-residual}, WireSteps.other_limit}
use Rattle.stick_cell.proofs.builder.CellBuilder.limit.Goals as goal

pub returns-in_err-ends-clause-grows : goal.returns-in_err-ends-clause-grows
returns-in_err-ends-clause-grows c = λ tech cells known are tables path_a path_b built is.
    let a = c.args in
    grows-residual cells c.from_residual.result a.self.now _ c.in_err-ends.field-0.0 c.from_residual.ensures.1
    (c.in_err-ends.ensures tech cells known a.vertical a.at_most a.n are tables path_a path_b built is)

pub returns-in_err-add_limit-clause-grows : goal.returns-in_err-add_limit-clause-grows
returns-in_err-add_limit-clause-grows c = λ tech cells known are tables path_a path_b built is.
    let a = c.args in
    let told = c.in_ok-ends.ensures tech cells known a.vertical a.at_most a.n are tables path_a path_b built is in
    grows-memory cells c.from_residual-in_err-add_limit.result c.add_limit.new.self _ (with_limit known told.0)
    c.from_residual-in_err-add_limit.ensures.1 told.1

pub returns-clause-grows : goal.returns-clause-grows
returns-clause-grows c = λ tech cells known are tables path_a path_b built is.
    let a = c.args in
    let told = c.in_ok-ends.ensures tech cells known a.vertical a.at_most a.n are tables path_a path_b built is in
    let ends = c.in_ok-ends.ends in
    let whole = to_z-of_z w64 a.n c.ranges.n in (
      with_limit known told.0,
      told.1,
      c.in_ok-add_limit.ensures.grows cells known told.0 is
          (λ light. other_limit known _ ends.0 ends.1 a.at_most c.axis_where.result (axis_where a.vertical) a.n
          (to_z w64 (of_z w64 a.n)) c.axis_where.ensures whole (told.2 light)),
    )
