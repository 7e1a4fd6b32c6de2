use Rattle.pass_run.proofs.LastPass.{IsLatest}
use Rattle.design_commands.proofs.slack.last_on.Given as goal

abbrev pub invariant-loop-at : goal.invariant-loop-at
invariant-loop-at l = IsLatest l.steps l.axis l.at l.last
