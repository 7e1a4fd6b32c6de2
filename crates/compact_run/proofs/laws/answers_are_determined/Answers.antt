use Rattle.run_words.specs.Words.{texts_of}
use Rattle.compact_run.proofs.OneAnswer.{has_one_answer}
use Rattle.compact_run.proofs.laws.answers_are_determined.Goals as goal

pub returns : goal.returns
returns c =
    λ files.
    has_one_answer
    (record {
      netlist = c.netlists_are_determined.ensures;
      verdict = c.verdicts_are_determined.ensures;
      breaks = λ most tech text short. c.breaks_are_determined.ensures tech most text short;
      extraction =
          c.netlist_is_determined.ensures.by_links;
      readings =
          c.foreign_readings_are_determined.ensures;
    }) (texts_of c.args.words.now) files
