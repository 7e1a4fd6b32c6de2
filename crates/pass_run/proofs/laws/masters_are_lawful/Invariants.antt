use Rattle.std.proofs.Common.{All, take}
use Rattle.expand.specs.Laws.{IsLawful}
use Rattle.pass_run.proofs.laws.masters_are_lawful.Given as goal

abbrev pub invariant-loop-master : goal.invariant-loop-master
invariant-loop-master l = All (IsLawful l.tech) (take l.master-index l.masters)
