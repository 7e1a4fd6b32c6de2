use Rattle.std.proofs.Common.{◌≡◌, ℕ, ◌+◌, ◌<◌, get_or, length, arith}
use Rattle.std.proofs.lemmas.Result.{IfOk-weaker}
use Rattle.par_phase.proofs.Numbers.{answer_has, one_for_each}
use Rattle.pass_run.specs.{declared.ready.Ready.Ready, Ready.IsReady}
use Rattle.pass_run.proofs.{Readied.{all_prepared, of_kind}, ready.prepare.{Given.Over, Goals.In_ok-made}}
use Rattle.pass_run.proofs.ready.prepare.Goals as goal

abbrev Is : (g : Over) → In_ok-made g → ℕ → Ready → Type 0
Is g c = IsReady c.args.axis c.args.tech.now c.args.plan.now c.args.masters.now c.args.layouts.now

-- what was made, number by number
each_is : (g : Over) (c : In_ok-made g) (k : ℕ) (d : Ready) → k < length c.args.masters.now + 2
    → Is g c k (get_or c.in_ok-made.made.items k d)
each_is g c = answer_has _ _ _ c.in_ok-made.made.items c.in_ok-made.ensures.answers (Is g c) (λ p r says. says)

made_counted : (g : Over) (c : In_ok-made g) → length c.in_ok-made.made.items ≡ length c.args.masters.now + 2
made_counted g c = one_for_each _ _ _ c.in_ok-made.made.items c.in_ok-made.ensures.answers (Is g c) (λ p r says. says)

pub taken_apart-requires-clause-each : goal.taken_apart-requires-clause-each
taken_apart-requires-clause-each g c = λ k d lt.
    let at = (goal.at.taken_apart-requires-clause-each g c).In_ok-made in
    let counted = made_counted g at in
    of_kind c.args.axis c.args.tech.now c.args.plan.now c.args.masters.now c.args.layouts.now k _
    (each_is g at k d (omega (arith, lt, counted)))

pub returns : goal.returns
returns g c =
    let at = (goal.at.returns g c).In_ok-made in
    IfOk-weaker c.taken_apart.result _ _ (λ all is.
    all_prepared c.args.axis c.args.tech.now c.args.plan.now c.args.masters.now c.args.layouts.now
    c.in_ok-made.made.items all (made_counted g at) (each_is g at) is) c.taken_apart.ensures
