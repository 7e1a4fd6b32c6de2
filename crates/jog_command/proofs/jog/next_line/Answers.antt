use Rattle.jog_command.proofs.Jogging.{stepped_all}
use Rattle.jog_command.proofs.jog.next_line.Goals as goal

pub returns-clause-step : goal.returns-clause-step
returns-clause-step g c =
    stepped_all c.args.tech.now c.args.axes.now c.args.i c.args.line.now c.args.so_far c.in_ok-accepted.accepted
    c.with_jog.result c.in_ok-accepted.ensures.accepted c.in_ok-accepted.ensures.rejected
    c.with_jog.ensures.accepted c.with_jog.ensures.rejected
