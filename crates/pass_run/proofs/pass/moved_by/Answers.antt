use Rattle.pass_run.proofs.Solved.{far_reached, fars_within}
use Rattle.pass_run.proofs.pass.moved_by.Goals as goal

pub most_of-requires-clause-among : goal.most_of-requires-clause-among
most_of-requires-clause-among c =
    fars_within c.args.axis c.args.masters.now c.args.listed.now.base c.args.listed.now.graph.vars
    c.requires.run.is_list.bases c.requires.run.is_list.vars

pub most_of-requires-clause-reach : goal.most_of-requires-clause-reach
most_of-requires-clause-reach c = far_reached c.requires.planned c.requires.lawful c.requires.laid c.requires.run
