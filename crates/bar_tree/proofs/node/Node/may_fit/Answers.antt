use Rattle.std.proofs.Common.{◌<ℤ◌, ◌≤ℤ◌, rules}
use Rattle.bar_tree.proofs.Ends.{turned, no_circle, no_circle_late, within_first}
use Rattle.bar_tree.proofs.node.Node.may_fit.Goals as goal
use Rattle.bar_tree.proofs.node.Node.may_fit.Goals.{then-end_beside-query-via-then-end_beside-query}
use Rattle.bar_tree.proofs.node.Node.may_fit.Goals.{then-end_beside-query-via-else-end_beside-query+then-self-query-2}

pub returns-then-self-query : goal.returns-then-self-query
returns-then-self-query c = λ b k f.
    absurd (no_circle b.end c.args.self.now.first c.args.query.now.above
    (within_first c.args.self.now b c.requires.node k.end) (search rules) f.ends)

pub returns-then-end_beside-query : goal.returns-then-end_beside-query
returns-then-end_beside-query c = λ b k f.
    let within : b.end ≤ℤ c.end_beside.result = c.end_beside.ensures b k.end f.first f.second in
    elim c.then-end_beside-query.branch [
      | then-end_beside-query-via-then-end_beside-query w ↦
          let most : c.end_beside.result ≤ℤ c.args.query.now.above = search rules in
          absurd (no_circle b.end c.end_beside.result c.args.query.now.above within most f.ends)
      | then-end_beside-query-via-else-end_beside-query+then-self-query-2 w ↦
          let late : c.args.self.now.late <ℤ c.args.query.now.from = search rules in
          absurd (no_circle_late b.start c.args.self.now.late c.args.query.now.from k.start late f.starts)
    ]

pub returns : goal.returns
returns c = λ b k f.
    (turned c.share.result c.share.ensures).1
    (λ s. f.apart (s.0, s.2, k.contacts s.0 s.1))
