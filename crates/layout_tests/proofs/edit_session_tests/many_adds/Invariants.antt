use Rattle.std.proofs.Common.{◌≡◌}
use Rattle.layout_tests.proofs.edit_session_tests.many_adds.Given as goal

abbrev pub invariant-loop-len : goal.invariant-loop-len
invariant-loop-len g l = l.session.vars ≡ 65536
