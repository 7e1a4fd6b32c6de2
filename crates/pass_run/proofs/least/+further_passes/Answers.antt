use Rattle.std.proofs.{Common.◌∷◌, lemmas.{Option.IfSome_then, Result.IfOk-weaker}}
use Rattle.pass_run.proofs.{Chain.settled_first, Leading.{AreLeastOn, lead_first, nowhere_first, none_then}}
use Rattle.pass_run.proofs.least.+further_passes.Goals as goal

pub returns-in-Some-2-clause-lead : goal.returns-in-Some-2-clause-lead
returns-in-Some-2-clause-lead g t c =
    let told = rw c.in-Some-2.is at c.in_ok-layouts-in-Some.ensures.least in
    let first : AreLeastOn c.args.tech.now c.args.plan.now c.args.masters.now c.in-Some.axis.now c.deref.result.now
    c.in-Some-2.layouts.items = record { x = told.0; least = told.1; is = told.2; stays = told.3 } in
    IfOk-weaker c.further_passes.result _ _ (λ o some. IfSome_then o some (λ layouts lead.
    rw (c.in-Some.ensures.cases.0, ← c.deref.ensures.value) (lead_first first c.in-Some.later.now layouts.items lead)))
    c.further_passes.ensures.lead

pub returns-in-Some-2-clause-none : goal.returns-in-Some-2-clause-none
returns-in-Some-2-clause-none g t c =
    let told = rw c.in-Some-2.is at c.in_ok-layouts-in-Some.ensures.least in
    let first : AreLeastOn c.args.tech.now c.args.plan.now c.args.masters.now c.in-Some.axis.now c.deref.result.now
    c.in-Some-2.layouts.items = record { x = told.0; least = told.1; is = told.2; stays = told.3 } in
    IfOk-weaker c.further_passes.result _ _ (λ o none. none_then o none (λ nowhere.
    rw (c.in-Some.ensures.cases.0, ← c.deref.ensures.value) (nowhere_first first c.in-Some.later.now nowhere)))
    c.further_passes.ensures.none

pub returns-in-Some-2-clause-settled : goal.returns-in-Some-2-clause-settled
returns-in-Some-2-clause-settled g t c =
    let told = rw c.in-Some-2.is at c.in_ok-layouts-in-Some.ensures.least in
    let first : AreLeastOn c.args.tech.now c.args.plan.now c.args.masters.now c.in-Some.axis.now c.deref.result.now
    c.in-Some-2.layouts.items = record { x = told.0; least = told.1; is = told.2; stays = told.3 } in
    IfOk-weaker c.further_passes.result _ _ (λ o some. IfSome_then o some (λ layouts rest had settled.
    rw c.in-Some.ensures.cases.0
    (settled_first c.args.tech.now c.args.plan.now c.args.masters.now c.in-Some.axis.now c.in-Some.later.now had
    layouts.items
    (rest (c.in-Some.axis.now ∷ had) (first.stays.settled had (rw c.deref.ensures.value settled))))))
    c.further_passes.ensures.settled
