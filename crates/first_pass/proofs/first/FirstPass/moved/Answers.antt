use Rattle.std.proofs.Common.{◌∙◌}
use Rattle.first_pass.proofs.SamePasses.{bases_are, clean_of, laid_of, leads, least_values, limits_fit, settles}
use Rattle.first_pass.proofs.first.FirstPass.moved.Goals as goal

pub shown_least-requires-clause-among : goal.shown_least-requires-clause-among
shown_least-requires-clause-among c = limits_fit c.requires.more c.deref.result.now
    (c.deref.ensures.value ∙ c.requires.limits)

pub with_values-requires-clause-laid : goal.with_values-requires-clause-laid
with_values-requires-clause-laid c = rw c.deref-3.ensures.value (laid_of c.requires.more)

pub with_values-requires-clause-bases : goal.with_values-requires-clause-bases
with_values-requires-clause-bases c = c.as_slice-base.ensures ∙ bases_are c.requires.more

pub with_values-requires-clause-least : goal.with_values-requires-clause-least
with_values-requires-clause-least c =
    let s = c.in-Some.ensures in
    rw c.deref-3.ensures.value (least_values c.requires.more c.deref.result.now c.in-Some.x.now
    (c.deref.ensures.value ∙ c.requires.limits) c.pruning_loses_nothing.ensures s.least s.one_each s.few)

pub returns-clause-clean : goal.returns-clause-clean
returns-clause-clean c = clean_of c.requires.more

pub returns-clause-lead : goal.returns-clause-lead
returns-clause-lead c =
    let s = c.in-Some.ensures in
    leads c.requires.more c.in-Some.x.now c.in_ok-layouts.layouts.items
    (least_values c.requires.more c.deref.result.now c.in-Some.x.now (c.deref.ensures.value ∙ c.requires.limits)
    c.pruning_loses_nothing.ensures s.least s.one_each s.few)
    (rw (← c.deref-3.ensures.value) c.in_ok-layouts.ensures.value)

pub returns-clause-settled : goal.returns-clause-settled
returns-clause-settled c = settles c.requires.more c.in_ok-layouts.layouts.items
    (rw (← c.deref-3.ensures.value) c.in_ok-layouts.ensures.settled)
