use Rattle.std.proofs.Common.{All, IsTrue, take}
use Rattle.flat_check.proofs.pairs.are_all.Given as goal

abbrev pub invariant-loop-answer : goal.invariant-loop-answer
invariant-loop-answer l = All IsTrue (take l.answer-index l.answers)
