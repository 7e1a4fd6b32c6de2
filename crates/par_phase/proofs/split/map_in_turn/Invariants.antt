use Rattle.std.proofs.Common.{take}
use Rattle.par_phase.specs.Answers.{AnswersEach}
use Rattle.par_phase.proofs.split.map_in_turn.Given as goal

-- the elements so far have their answers
abbrev pub invariant-loop-item : goal.invariant-loop-item
invariant-loop-item g l = AnswersEach g.F.Fn l.f (take l.item-index l.items) l.answers.items
