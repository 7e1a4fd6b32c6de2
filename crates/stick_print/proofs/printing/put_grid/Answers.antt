use Rattle.stick_text.specs.declared.design.Statement.TheVariants.{Grid}
use Rattle.stick_print.{specs.Canonical.{grid_lines, row_line, line_of}, proofs.Growing.{one_more, every_one_ended}}
use Rattle.stick_print.proofs.printing.put_grid.Goals as goal

pub loop-row-preserved : goal.loop-row-preserved
loop-row-preserved c =
    one_more row_line _ _ _ _ _ _ _ _ c.as_slice-row-items.ensures c.loop-row-test.true c.row-item.is
    c.loop-row.invariant c.in_ok-put_row.ensures

pub returns : goal.returns
unfolding grid_lines line_of
returns c =
    every_one_ended row_line _ (line_of (Grid c.args.grid.now.name)) _ _ _ _ _ _ c.as_slice-row-items.ensures
    c.loop-row-test.false c.loop-row.invariant c.in_ok-extend_from_slice.ensures.items
