use Rattle.stick_text.proofs.Written.{words_in_range, no_third_fault}
use Rattle.stick_parse.proofs.laws.has_words_in_range.Goals as goal

pub returns : goal.returns
returns c = record { words = words_in_range c.args.line.now; faults = no_third_fault c.args.line.now }
