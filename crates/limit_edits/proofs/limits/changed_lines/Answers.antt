use Rattle.limit_edits.proofs.Lines.{without_limit}
use Rattle.limit_edits.proofs.limits.changed_lines.Goals as goal

pub returns-in_ok-new-in-Take : goal.returns-in_ok-new-in-Take
returns-in_ok-new-in-Take c =
    rw c.in-Take.is
    (without_limit c.args.lines.now c.in-Take.k c.in-Some.at c.in_ok-new-in-Take.new.items c.in-Some.ensures
    c.in_ok-new-in-Take.ensures)
