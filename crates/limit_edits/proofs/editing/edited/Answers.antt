use Rattle.std.{proofs.Common.{◌≡◌, ℕ, get_or, map, ap, sym, subst, ◌∙◌, length}, specs.List.AllByRecursion}
use Rattle.list_facts.proofs.Elements.{all_at}
use Rattle.stick_text.specs.{declared.design.{CellText.CellText, Design.Design}, Writable.{IsLine, IsCell, IsWritable}}
use Rattle.stick_print.specs.ReadBack.{without_line}
use Rattle.design_edits.{specs.Cells.no_cell, proofs.Laid.{laid_is_writable, grids_same}}
use Rattle.limit_edits.{specs.Edits.HasLinesAfter, proofs.Lines.{changed_have_text, changed_length, HasLengthAfter}}
use Rattle.limit_edits.proofs.Designs.{text_of_cell, lines_after}
use Rattle.limit_edits.proofs.editing.edited.Goals as goal

pub returns-clause-writable : goal.returns-clause-writable
returns-clause-writable c =
    let design = c.args.design.now in
    let k = c.in-Some.cell in
    let here = text_of_cell design c.as_slice-cells.result.now c.cell.result.now k c.index-cells-cell.result
    c.as_slice-cells.ensures c.in-Some.ensures c.index-cells-cell.is in
    let old : IsCell c.index-cells-cell.result =
    subst IsCell (sym here.1) (all_at IsCell design.cells no_cell k c.requires.writable.cells here.0) in
    let before : AllByRecursion IsLine c.as_slice.result.now =
    subst (AllByRecursion IsLine) (sym c.as_slice.ensures) old.1 in
    let after = changed_have_text c.args.edit.now c.as_slice.result.now c.in-Some-2.lines.items c.requires.written
    before (rw c.in-Some-2.is at c.in_ok-lines.ensures) in
    subst IsWritable (sym c.in_ok-new.ensures)
    (laid_is_writable design k _ c.requires.writable here.0
    (subst (AllByRecursion IsLine) (sym c.deref.ensures.value) after))

pub returns-clause-grids : goal.returns-clause-grids
returns-clause-grids c = ap (λ (d : Design). map without_line d.grids) c.in_ok-new.ensures
    ∙ grids_same _ c.args.design.now.grids

pub returns-clause-lines : goal.returns-clause-lines
returns-clause-lines c =
    let design = c.args.design.now in
    let edit = c.args.edit.now in
    let k = c.in-Some.cell in
    let here = text_of_cell design c.as_slice-cells.result.now c.cell.result.now k c.index-cells-cell.result
    c.as_slice-cells.ensures c.in-Some.ensures c.index-cells-cell.is in
    let lengths = changed_length edit c.as_slice.result.now c.in-Some-2.lines.items
    (rw c.in-Some-2.is at c.in_ok-lines.ensures) in
    let before : length c.as_slice.result.now ≡ length (get_or design.cells k no_cell).lines =
    ap length c.as_slice.ensures ∙ ap (λ (t : CellText). length t.lines) here.1 in
    let from : HasLengthAfter edit (length (get_or design.cells k no_cell).lines) (length c.in-Some-2.lines.items) =
    subst (λ (n : ℕ). HasLengthAfter edit n (length c.in-Some-2.lines.items)) before lengths in
    let to : HasLengthAfter edit (length (get_or design.cells k no_cell).lines) (length c.deref.result.now) =
    subst (HasLengthAfter edit (length (get_or design.cells k no_cell).lines))
    (sym (ap length c.deref.ensures.value)) from in
    subst (HasLinesAfter edit design) (sym c.in_ok-new.ensures) (lines_after edit design k _ here.0 to)
