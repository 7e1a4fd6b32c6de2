use Rattle.stick_text.specs.declared.design.Statement.TheVariants.{Cell}
use Rattle.stick_print.{specs.Canonical.{cell_lines, item_line, line_of}, proofs.Growing.{one_more, every_one_ended}}
use Rattle.stick_print.proofs.printing.put_cell.Goals as goal

pub loop-line-preserved : goal.loop-line-preserved
loop-line-preserved c =
    one_more item_line _ _ _ _ _ _ _ _ c.as_slice-line-items.ensures c.loop-line-test.true c.line-item.is
    c.loop-line.invariant c.in_ok-put_form.ensures

pub returns : goal.returns
unfolding cell_lines line_of
returns c =
    every_one_ended item_line _ (line_of (Cell c.args.cell.now.name)) _ _ _ _ _ _ c.as_slice-line-items.ensures
    c.loop-line-test.false c.loop-line.invariant c.in_ok-extend_from_slice.ensures.items
