use Rattle.compact_run.proofs.BreakLaws.{breaks_are_those_of_check}
use Rattle.compact_run.proofs.laws.breaks_are_those_of_check.Goals as goal

pub returns : goal.returns
returns c = breaks_are_those_of_check c.breaks_tell_verdicts.ensures
