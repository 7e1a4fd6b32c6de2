use Rattle.std.proofs.Common.{◌≡◌, ◌/◌, ◌^◌, ℕ, ◌<◌, length, get_or, ap, sym, subst}
use Rattle.std.proofs.lemmas.List.{get_or_read}
use Rattle.bar_tree.specs.{declared.node.Node.Node, Nodes.Covers, Trees.no_node}
use Rattle.bar_tree.proofs.Levels.{knows_more}
use Rattle.bar_tree.proofs.tree.Level.start.Goals as goal

pub returns-clause-covers : goal.returns-clause-covers
returns-clause-covers c = λ started.
    let level = c.args.self.now in
    let nodes = level.nodes.items in
    let k : ℕ = c.args.place / 2 ^ level.shift in
    let among : k < length nodes = subst (λ (w : ℕ). c.args.place / w < length nodes)
    c.requires.over.width (c.requires.over.each c.args.place c.requires.among) in
    let read : get_or nodes k no_node ≡ c.index.result.now =
    sym (get_or_read nodes k c.index.result.now among c.index.ensures no_node) in
    knows_more c.args.bars.now started nodes level.width c.args.place k c.with.result
    (ap (λ (w : ℕ). c.args.place / w) c.requires.over.width) among
    (λ b known. c.with.ensures.others b (subst (λ (n : Node). Covers n b) read known)) c.with.ensures.one
