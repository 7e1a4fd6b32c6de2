use Rattle.std.proofs.Common.{◌≤◌, length, refl, sym, ap, ◌∙◌, arith}
use Rattle.checked_cells.specs.CheckedCell.{begun}
use Rattle.checked_cells.proofs.{Built.{built-begun, built-after_form}, TableReads.element_at}
use Rattle.stick_cell.proofs.LineLoop.{lines-next, lines-refused, lines-end, form-at}
use Rattle.stick_cell.proofs.reading.read_lines.Goals as goal

pub returns-in-Err : goal.returns-in-Err
returns-in-Err c = λ cells are tables have is sides.
    let so_far = c.loop-line.invariant cells are tables have is sides in
    let (lt, at) = element_at c.args.text.now.lines c.as_slice-line-items.result.now c.loop-line.line-index
    c.line-item.result c.as_slice-line-items.ensures c.loop-line-test.true c.line-item.is in
    let form = form-at c.args.text.now.lines c.loop-line.line-index c.line-item.result c.requires.is_cell.1 lt at in
    lines-refused c.args.tech.now cells so_far.0 c.args.text.now.lines c.loop-line.line-index c.line-item.result
    c.in-Err.fault c.at_line.result _ lt at
    (c.in-Err.ensures cells so_far.0 are tables have form so_far.3 so_far.1 so_far.2) c.at_line.ensures so_far.4

pub loop-line-init : goal.loop-line-init
loop-line-init c = λ cells are tables have is sides.
    (begun c.args.text.now.name, is, sides, built-begun c.args.tech.now cells c.args.text.now.name, refl)

pub loop-line-preserved : goal.loop-line-preserved
loop-line-preserved c = λ cells are tables have is sides.
    let tech = c.args.tech.now in
    let lines = c.args.text.now.lines in
    let i = c.loop-line.line-index in
    let line = c.line-item.result in
    let so_far = c.loop-line.invariant cells are tables have is sides in
    let (lt, at) = element_at lines c.as_slice-line-items.result.now i line c.as_slice-line-items.ensures
    c.loop-line-test.true c.line-item.is in
    let form = form-at lines i line c.requires.is_cell.1 lt at in
    let next = c.in-Ok.ensures cells so_far.0 are tables have form so_far.3 so_far.1 so_far.2 in (
      next.0,
      next.2,
      next.3,
      built-after_form tech cells so_far.0 line.form next.0 are form so_far.3 next.1,
      sym (lines-next tech cells so_far.0 next.0 lines i line lt at next.1) ∙ so_far.4,
    )

pub returns : goal.returns
returns c = λ cells are tables have is sides.
    let so_far = c.loop-line.invariant cells are tables have is sides in
    let le : length c.args.text.now.lines ≤ c.loop-line.line-index =
    omega (arith, c.loop-line-test.false, ap length c.as_slice-line-items.ensures) in (
      so_far.0,
      sym so_far.4 ∙ lines-end c.args.tech.now cells so_far.0 c.args.text.now.lines c.loop-line.line-index
          le,
      so_far.1,
      so_far.2,
    )
