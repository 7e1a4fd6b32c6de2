use Rattle.std.proofs.Common.{take}
use Rattle.slack_pack.specs.Slacks.{AreFirst}
use Rattle.slack_pack.proofs.moving.first_slacks.Given as goal

abbrev pub invariant-loop-f : goal.invariant-loop-f
invariant-loop-f l = AreFirst l.vars (take l.f-index l.far) l.slacks.items
