use Rattle.std.proofs.Common.{◌∙◌}
use Rattle.pass_run.proofs.Adding.{own_below, own_edges}
use Rattle.pass_run.proofs.finding.find_kept.Goals as goal

pub spaces_of-requires-clause-below : goal.spaces_of-requires-clause-below
spaces_of-requires-clause-below c =
    rw c.as_slice-items.ensures
    (own_below c.args.axis c.args.tech.now c.args.base c.args.master.now c.master_is_lawful.ensures c.requires.few)

pub returns-in_ok-spaces_of-in-Ok : goal.returns-in_ok-spaces_of-in-Ok
returns-in_ok-spaces_of-in-Ok c =
    own_edges c.args.axis c.args.tech.now c.args.base c.args.master.now c.args.layout.now c.as_slice-items.result.now
    c.deref.result.now _ c.as_slice-items.ensures (c.deref.ensures.value ∙ c.in-Ok.ensures.value)
    c.in_ok-spaces_of-in-Ok.ensures
