use Rattle.std.proofs.Common.{arith}
use Rattle.pass_run.proofs.LastPass.{latest_is_last, latest_within}
use Rattle.design_commands.proofs.slack.last_on.Goals as goal

pub returns-clause-within : goal.returns-clause-within
returns-clause-within c = latest_within c.args.steps.now c.args.axis c.loop-at.at c.loop-at.last c.requires
    (omega (arith, c.loop-at-test.false, c.loop-at.auto.at-end)) c.loop-at.invariant

pub returns-clause-last : goal.returns-clause-last
returns-clause-last c = λ masters starts.
    latest_is_last masters c.args.axis starts c.args.steps.now c.loop-at.at c.loop-at.last c.requires
    (omega (arith, c.loop-at-test.false, c.loop-at.auto.at-end)) c.loop-at.invariant
