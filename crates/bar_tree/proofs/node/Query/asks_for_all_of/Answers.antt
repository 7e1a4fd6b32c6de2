use Rattle.std.proofs.Common.{rules}
use Rattle.bar_tree.proofs.Ends.{fits_more}
use Rattle.bar_tree.proofs.node.Query.asks_for_all_of.Goals as goal

pub returns : goal.returns
returns c = λ is b f.
    fits_more c.args.self.now c.args.other.now (search rules) (search rules) (search rules) (search rules)
    (c.are_same.ensures is) b f
