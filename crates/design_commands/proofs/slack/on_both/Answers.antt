use Rattle.design_commands.proofs.slack.on_both.Goals as goal

pub on_axis-requires-clause-tight : goal.on_axis-requires-clause-tight
on_axis-requires-clause-tight c = rw c.as_slice-masters.ensures.value c.requires.tight

pub on_axis-requires-2-clause-tight : goal.on_axis-requires-2-clause-tight
on_axis-requires-2-clause-tight c = rw c.as_slice-masters.ensures.value c.requires.tight
