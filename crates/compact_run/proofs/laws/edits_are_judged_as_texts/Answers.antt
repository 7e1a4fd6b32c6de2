use Rattle.compact_run.proofs.EditLaws.{judged_as_texts}
use Rattle.compact_run.proofs.laws.edits_are_judged_as_texts.Goals as goal

pub returns : goal.returns
returns c = judged_as_texts
