use Rattle.std.proofs.Common.{◌-◌}
use Rattle.box_tree.proofs.grow.+add_tree.Given as goal

abbrev pub decreases-add_tree : goal.decreases-add_tree
decreases-add_tree l = l.end - l.start
