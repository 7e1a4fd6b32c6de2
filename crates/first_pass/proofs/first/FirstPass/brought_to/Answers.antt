use Rattle.std.proofs.Common.{◌∙◌}
use Rattle.first_pass.proofs.SamePasses.{bases_are, few_joint, limits_fit}
use Rattle.first_pass.proofs.first.FirstPass.brought_to.Goals as goal

pub system_limits-requires-clause-few : goal.system_limits-requires-clause-few
system_limits-requires-clause-few c = few_joint c.requires.more

pub system_limits-requires-clause-base : goal.system_limits-requires-clause-base
system_limits-requires-clause-base c = c.as_slice.ensures ∙ bases_are c.requires.more

pub follow-requires-clause-among : goal.follow-requires-clause-among
follow-requires-clause-among c = limits_fit c.requires.more c.deref-2.result.now
    (c.deref-2.ensures.value ∙ c.in_ok-limits.ensures)
