use Rattle.compact_run.proofs.SplitAlike.{splits_answer_alike}
use Rattle.compact_run.proofs.laws.splits_answer_alike.Goals as goal

pub returns : goal.returns
returns c = splits_answer_alike
