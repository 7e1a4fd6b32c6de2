use Rattle.std.{proofs.Common.{◌+◌, ◌<◌, map, ap, sym, subst, ◌∙◌, arith, length}, specs.List.AllByRecursion}
use Rattle.stick_text.specs.declared.design.{CellText.CellText, Design.Design}
use Rattle.stick_text.specs.Writable.{IsCell, IsLine, IsPath, IsWritable}
use Rattle.stick_print.specs.ReadBack.{without_line}
use Rattle.cell_model.specs.declared.cell.Cell.{Cell}
use Rattle.checked_cells.specs.{CheckedCell.{cell_of, known_at}, Tables.known_of}
use Rattle.design_sizes.specs.Sizes.{lines_in}
use Rattle.design_edits.proofs.Laid.{laid_is_writable, grids_same, more_lines, few_lines, text_here}
use Rattle.jog_insert.proofs.Jogged.{cells_number, cell_written, cell_named, none_jogged, jogged_of}
use Rattle.jog_insert.proofs.inserting.insert.Goals as goal

pub stands_alone-requires : goal.stands_alone-requires
stands_alone-requires c =
    omega (
      arith,
      cells_number c.args.cells.now c.args.design.now c.requires.resolved
          c.requires.of,
      c.requires.within,
    )

pub bounds-as_slice-cell : goal.bounds-as_slice-cell
bounds-as_slice-cell c =
    omega (
      arith,
      cells_number c.args.cells.now c.args.design.now c.requires.resolved
          c.requires.of,
      c.requires.within,
      ap length c.as_slice.ensures,
    )

pub bent_cell-requires-clause-written : goal.bent_cell-requires-clause-written
bent_cell-requires-clause-written c =
    let design = c.args.design.now in
    let within : c.args.cell < length design.cells =
    omega (arith, cells_number c.args.cells.now design c.requires.resolved c.requires.of, c.requires.within) in
    let text = text_here design c.as_slice.result.now c.args.cell c.index-as_slice-cell.result c.as_slice.ensures
    within c.index-as_slice-cell.is in
    subst IsCell (sym text) (cell_written c.args.cells.now design c.args.cell c.requires.resolved c.requires.of within)

pub bent_cell-requires-clause-few : goal.bent_cell-requires-clause-few
bent_cell-requires-clause-few c =
    let design = c.args.design.now in
    let within : c.args.cell < length design.cells =
    omega (arith, cells_number c.args.cells.now design c.requires.resolved c.requires.of, c.requires.within) in
    let text = text_here design c.as_slice.result.now c.args.cell c.index-as_slice-cell.result c.as_slice.ensures
    within c.index-as_slice-cell.is in
    omega (
      arith,
      few_lines design c.args.cell within,
      c.if-not-is_short.ensures,
      ap
          (λ (t : CellText). length t.lines) text,
    )

pub bent_cell-requires-clause-named : goal.bent_cell-requires-clause-named
bent_cell-requires-clause-named c =
    let design = c.args.design.now in
    let within : c.args.cell < length design.cells =
    omega (arith, cells_number c.args.cells.now design c.requires.resolved c.requires.of, c.requires.within) in
    let P : Cell → Type 0 = λ cell. AllByRecursion (λ node. IsPath node.name) cell.nodes in
    subst P (sym c.in_ok-content.ensures.value)
    (cell_named c.args.cells.now design c.args.cell c.requires.resolved c.requires.of within
    c.if-not-stands_alone.ensures.whole)

pub returns-in_default-clause-jogged : goal.returns-in_default-clause-jogged
returns-in_default-clause-jogged c =
    let design = c.args.design.now in
    let within : c.args.cell < length design.cells =
    omega (arith, cells_number c.args.cells.now design c.requires.resolved c.requires.of, c.requires.within) in
    let text = text_here design c.as_slice.result.now c.args.cell c.index-as_slice-cell.result c.as_slice.ensures
    within c.index-as_slice-cell.is in
    none_jogged design (cell_of (known_at (known_of c.args.cells.now) c.args.cell)) c.in_ok-content.content
    c.args.masters.now c.args.cell c.args.k c.args.r c.args.left c.index-as_slice-cell.result
    text c.in_ok-content.ensures.value (rw c.in_default.is at c.in_ok-bent.ensures.bent)

pub with_lines-requires-clause-within : goal.with_lines-requires-clause-within
with_lines-requires-clause-within c =
    omega (
      arith,
      cells_number c.args.cells.now c.args.design.now c.requires.resolved
          c.requires.of,
      c.requires.within,
    )

pub with_lines-requires-clause-few : goal.with_lines-requires-clause-few
with_lines-requires-clause-few c =
    let design = c.args.design.now in
    let within : c.args.cell < length design.cells =
    omega (arith, cells_number c.args.cells.now design c.requires.resolved c.requires.of, c.requires.within) in
    let text = text_here design c.as_slice.result.now c.args.cell c.index-as_slice-cell.result c.as_slice.ensures
    within c.index-as_slice-cell.is in
    let more = rw c.in-Some.is at c.in_ok-bent.ensures.lines in
    omega (
      arith,
      few_lines design c.args.cell within,
      c.if-not-is_short.ensures,
      ap
          (λ (t : CellText). length t.lines) text,
      more,
    )

pub returns-clause-jogged : goal.returns-clause-jogged
returns-clause-jogged c =
    let design = c.args.design.now in
    let within : c.args.cell < length design.cells =
    omega (arith, cells_number c.args.cells.now design c.requires.resolved c.requires.of, c.requires.within) in
    let text = text_here design c.as_slice.result.now c.args.cell c.index-as_slice-cell.result c.as_slice.ensures
    within c.index-as_slice-cell.is in
    jogged_of design (cell_of (known_at (known_of c.args.cells.now) c.args.cell)) c.in_ok-content.content
    c.args.masters.now c.args.cell c.args.k c.args.r c.args.left c.index-as_slice-cell.result c.in-Some.bent.items
    c.in_ok-new.new
    c.if-not-stands_alone.ensures text c.in_ok-content.ensures.value (rw c.in-Some.is at c.in_ok-bent.ensures.bent)
    (rw c.deref.ensures.value at c.in_ok-new.ensures)

pub returns-clause-writable : goal.returns-clause-writable
returns-clause-writable c =
    let design = c.args.design.now in
    let written : IsWritable design = subst IsWritable c.requires.of c.requires.resolved.writable in
    let within : c.args.cell < length design.cells =
    omega (arith, cells_number c.args.cells.now design c.requires.resolved c.requires.of, c.requires.within) in
    subst IsWritable (sym c.in_ok-new.ensures)
    (laid_is_writable design c.args.cell _ written within
    (subst (AllByRecursion IsLine) (sym c.deref.ensures.value) (rw c.in-Some.is at c.in_ok-bent.ensures.written)))

pub returns-clause-grids : goal.returns-clause-grids
returns-clause-grids c = ap (λ (d : Design). map without_line d.grids) c.in_ok-new.ensures
    ∙ grids_same _ c.args.design.now.grids

pub returns-clause-lines : goal.returns-clause-lines
returns-clause-lines c =
    let design = c.args.design.now in
    let within : c.args.cell < length design.cells =
    omega (arith, cells_number c.args.cells.now design c.requires.resolved c.requires.of, c.requires.within) in
    let text = text_here design c.as_slice.result.now c.args.cell c.index-as_slice-cell.result c.as_slice.ensures
    within c.index-as_slice-cell.is in
    let more = rw c.in-Some.is at c.in_ok-bent.ensures.lines in
    ap lines_in c.in_ok-new.ensures
    ∙ more_lines design c.args.cell _ within
    (ap length c.deref.ensures.value ∙ more ∙ ap (λ (t : CellText). length t.lines + 4) text)
