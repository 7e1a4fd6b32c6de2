use Rattle.graph_search.proofs.Determined.{numbers_same}
use Rattle.graph_search.proofs.laws.netting_is_determined.Goals as goal

pub returns : goal.returns
returns c = numbers_same
