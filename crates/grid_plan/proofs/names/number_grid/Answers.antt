use Rattle.std.proofs.{Common.{◌^◌, ◌<◌, length, arith}, lemmas.Grind.common_steps}
use Rattle.stick_text.specs.declared.design.RowText.{RowText}
use Rattle.grid_plan.proofs.Pieces.{one_further}
use Rattle.grid_plan.proofs.names.number_grid.Goals as goal

pub loop-row-preserved : goal.loop-row-preserved
loop-row-preserved c = record {
  numbers = grind (arith, common_steps);
  few = one_further (λ (row : RowText). length row.names < 2 ^ 32) c.as_slice-rows.result.now c.loop-row.row
      c.index-rows-row.result (omega arith) c.index-rows-row.is c.loop-row.invariant.few
      c.in_ok-number_row.ensures.few;
}
