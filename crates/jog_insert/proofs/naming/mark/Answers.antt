use Rattle.std.proofs.Common.{arith}
use Rattle.jog_insert.proofs.Marking.{marks_set}
use Rattle.jog_insert.proofs.naming.mark.Goals as goal

pub returns-then-branch : goal.returns-then-branch
returns-then-branch c =
    marks_set c.args.name.now c.args.taken.now c.number_in-number.result (omega arith)
    (rw c.if-branch.true at c.in_ok-is_name_of.ensures)
    (λ n lt is. c.number_in-number.ensures n (omega (arith, lt, c.requires)) is)
