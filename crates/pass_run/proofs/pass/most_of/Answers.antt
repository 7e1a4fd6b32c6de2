use Rattle.pass_run.proofs.pass.most_of.Goals as goal

pub most-requires-clause-reach : goal.most-requires-clause-reach
most-requires-clause-reach c = rw c.as_slice.ensures c.requires.reach
