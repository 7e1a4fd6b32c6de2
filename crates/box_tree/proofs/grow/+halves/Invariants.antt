use Rattle.std.proofs.Common.{◌+◌, ◌*◌}
use Rattle.box_tree.proofs.grow.+halves.Given as goal

abbrev pub decreases-make_subtree : goal.decreases-make_subtree
decreases-make_subtree g l = 2 * l.shares + 1

abbrev pub decreases-left : goal.decreases-left
decreases-left g l = 2 * l.shares

abbrev pub decreases-right : goal.decreases-right
decreases-right g l = 2 * l.shares
