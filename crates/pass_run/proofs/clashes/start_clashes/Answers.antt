use Rattle.std.{proofs.{Common.{ℕ, arith}, lemmas.Result.IfOk-weaker}, specs.Prelude.Option}
use Rattle.pitch_join.specs.Masters.{master_at}
use Rattle.par_phase.proofs.Numbers.{answer_has, one_for_each}
use Rattle.pass_run.specs.Clashes.{IsStartClash}
use Rattle.pass_run.proofs.clashes.start_clashes.Goals as goal

pub map_numbers-requires-clause-accepts : goal.map_numbers-requires-clause-accepts
map_numbers-requires-clause-accepts g c = λ κs le m lt p is.
    (omega (arith, lt, is), c.requires.masters, c.requires.starts)

pub returns : goal.returns
returns g c =
    let I : ℕ → Option (ℕ × ℕ) → Type 0 = λ m found. IsStartClash c.args.tech.now (master_at c.args.masters.now m) found
    in
    IfOk-weaker c.map_numbers.result _ _ (λ found are. record {
      one_each = one_for_each _ _ _ found.items are I (λ p r says. says);
      each = answer_has _ _ _ found.items are I (λ p r says. says);
    }) c.map_numbers.ensures.answers
