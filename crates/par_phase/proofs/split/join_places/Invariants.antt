use Rattle.std.proofs.Common.{◌≡◌, length}
use Rattle.par_phase.{specs.{Answers.AnswersAt, Taken.ArePlaced}, proofs.Cuts.BelongSoFar}
use Rattle.par_phase.proofs.split.join_places.Given as goal

-- the elements of the blocks so far have their answers, and what still stands in a place belongs there
abbrev pub invariant-loop-block : goal.invariant-loop-block
invariant-loop-block g l = record {
  so_far : BelongSoFar (AnswersAt g.F.Fn l.f) l.items l.blocks l.block l.all.items;
  count : length l.places.items ≡ l.blocks;
  placed : ArePlaced g.F.Fn l.f l.items l.blocks l.places.items;
}
