use Rattle.std.proofs.{Common.{◌+◌, ◌-◌, List, length, take, drop, set, refl, ap, arith, ◌∙◌}, lemmas.List.take_rest}
use Rattle.std.specs.Prelude.{sum_by}
use Rattle.stick_text.specs.declared.design.{CellText.CellText, GridText.GridText, Design.Design}
use Rattle.design_sizes.specs.Sizes.{lines_of_cell, lines_of_grid}
use Rattle.stick_print.specs.ReadBack.{grids_from, laid_out}
use Rattle.design_edits.proofs.{Copies.{few_cells, laid_with}, Laid.text_here}
use Rattle.design_edits.proofs.copying.with_lines.Goals as goal

pub copy_cell-requires : goal.copy_cell-requires
copy_cell-requires c =
    let cells = c.as_slice-cells.result.now in
    let e = c.as_slice-cells.ensures in
    let sum = ap (λ (l : List CellText). sum_by lines_of_cell l) e in
    omega (arith, few_cells cells c.args.number (omega (arith, ap length e)), c.in_ok-first.ensures.lines, sum)

pub overflow_add-first-2 : goal.overflow_add-first-2
overflow_add-first-2 c =
    let cells = c.as_slice-cells.result.now in
    let e = c.as_slice-cells.ensures in
    let sum = ap (λ (l : List CellText). sum_by lines_of_cell l) e in
    omega (arith, few_cells cells c.args.number (omega (arith, ap length e)), c.in_ok-first.ensures.lines, sum)

pub push_cells-requires-2 : goal.push_cells-requires-2
push_cells-requires-2 c =
    let cells = c.as_slice-cells.result.now in
    let e = c.as_slice-cells.ensures in
    let sum = ap (λ (l : List CellText). sum_by lines_of_cell l) e in
    omega (
      arith,
      few_cells cells c.args.number (omega (arith, ap length e)),
      c.in_ok-first.ensures.lines,
      sum,
      ap
          (sum_by lines_of_cell) (take_rest cells (c.args.number + 1)),
    )

pub copy_grids-requires : goal.copy_grids-requires
copy_grids-requires c =
    let cells = c.as_slice-cells.result.now in
    let e = c.as_slice-cells.ensures in
    let sum = ap (λ (l : List CellText). sum_by lines_of_cell l) e in
    let grids = ap (λ (l : List GridText). sum_by lines_of_grid l) c.as_slice.ensures in
    omega (
      arith,
      few_cells cells c.args.number (omega (arith, ap length e)),
      c.in_ok-first.ensures.lines,
      c.in_ok-first-2.ensures.lines,
      sum,
      grids,
      ap (sum_by lines_of_cell) (take_rest cells (c.args.number + 1)),
    )

pub returns : goal.returns
returns c =
    let design : Design = c.args.design.now in
    let cells = c.as_slice-cells.result.now in
    let e = c.as_slice-cells.ensures in
    let n = c.args.number in
    let lines = c.args.lines.now in
    let old = c.index-cells-number.result in
    let first = c.in_ok-first.first in
    laid_with design.version design.cells design.grids n first (first + length lines + 2) c.in_ok-first-2.first
    (record old { lines = lines }) c.in_ok-copy_cell.field-0
    c.new-copies.result.items c.push_cells.new.copies.items c.push.new.self.items c.from_vec.result
    c.in_ok-grids.grids (take n cells) (take (length cells - (n + 1)) (drop (n + 1) cells))
    (omega arith) (ap (take n) e) (take_rest cells (n + 1) ∙ ap (drop (n + 1)) e) c.new-copies.ensures.items
    c.in_ok-first.ensures.cells c.in_ok-first.ensures.after
    c.in_ok-copy_cell.ensures c.in_ok-push.ensures.items refl
    (c.from_vec.ensures ∙ c.in_ok-first-2.ensures.cells) c.in_ok-first-2.ensures.after
    (c.in_ok-grids.ensures ∙ ap (grids_from c.in_ok-first-2.first) c.as_slice.ensures)
    ∙ ap (λ (t : CellText). laid_out (record design { cells = set design.cells n (record t { lines = lines }) }))
    (text_here design cells n old e (omega (arith, ap length e)) c.index-cells-number.is)
