use Rattle.std.proofs.{Common.{length, None}, lemmas.Result.IfOk-weaker}
use Rattle.par_phase.proofs.Numbers.{answer_has}
use Rattle.stick_cell.specs.Ready.{IsReadyAt}
use Rattle.stick_cell.proofs.ready.ready_cells.Goals as goal

pub returns : goal.returns
returns g c =
    let texts = c.args.texts.now in
    IfOk-weaker c.map_numbers.result _ _ (λ ready all k lt.
    answer_has _ _ (length texts) ready.items all (IsReadyAt c.args.tech.now texts) (λ p made says. says) k None lt)
    c.map_numbers.ensures.answers
