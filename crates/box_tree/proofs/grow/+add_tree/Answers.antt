use Rattle.box_tree.proofs.Trees.{grown_leaf}
use Rattle.box_tree.proofs.grow.+add_tree.Goals as goal

pub returns-then-end-start-le-RUN : goal.returns-then-end-start-le-RUN
returns-then-end-start-le-RUN t c =
    let leaf = c.leaf_of-leaf.ensures in
    grown_leaf c.args.sorted.now.entries.now c.args.start c.args.end c.args.groups.now.items
    c.push.new.self.items c.leaf_of-leaf.result
    c.in_ok-push.ensures.items leaf.placed leaf.starts leaf.ends leaf.inside leaf.within c.requires.some
