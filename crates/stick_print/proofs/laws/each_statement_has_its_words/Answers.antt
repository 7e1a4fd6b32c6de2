use Rattle.stick_print.proofs.{Statements.statement_again, Taken.only_words}
use Rattle.stick_print.proofs.laws.each_statement_has_its_words.Goals as goal

pub returns : goal.returns
returns c = λ statement. record { read = statement_again statement; only = only_words statement }
