use Rattle.liao_wong.specs.Marked.{AreUnmarked}
use Rattle.liao_wong.proofs.marks.first_marked.Given as goal

abbrev pub invariant-loop-n : goal.invariant-loop-n
invariant-loop-n l = AreUnmarked l.flags l.start l.n
