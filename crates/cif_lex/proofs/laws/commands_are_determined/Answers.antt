use Rattle.cif_lex.proofs.OneAnswer.{one_next, one_tail}
use Rattle.cif_lex.proofs.laws.commands_are_determined.Goals as goal

pub returns-clause-next : goal.returns-clause-next
returns-clause-next c = one_next

pub returns-clause-tail : goal.returns-clause-tail
returns-clause-tail c = one_tail
