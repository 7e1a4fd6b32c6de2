use Rattle.std.proofs.{Common.arith, lemmas.Grind.common_steps}
use Rattle.stick_text.specs.declared.design.GridText.{GridText}
use Rattle.grid_plan.{specs.Small.AreFewRows, proofs.Pieces.one_further}
use Rattle.grid_plan.proofs.names.number_grids.Goals as goal

pub loop-grid-preserved : goal.loop-grid-preserved
loop-grid-preserved c = record {
  numbers = grind (arith, common_steps);
  few = one_further (λ (grid : GridText). AreFewRows grid.rows) c.args.grids.now c.loop-grid.grid
      c.index-grids-grid.result (omega arith) c.index-grids-grid.is c.loop-grid.invariant.few
      c.in_ok-number_grid.ensures.few;
}
