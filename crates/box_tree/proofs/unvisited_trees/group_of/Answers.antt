use Rattle.box_tree.proofs.Walk.{group_read}
use Rattle.box_tree.proofs.unvisited_trees.group_of.Goals as goal

pub returns : goal.returns
returns c = group_read c.args.parts.now c.args.at c.index.result.now c.requires.parts c.requires.among c.index.ensures
