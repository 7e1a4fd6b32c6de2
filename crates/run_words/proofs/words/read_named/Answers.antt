use Rattle.std.proofs.Common.{Option, ◌∙◌, subst, sym}
use Rattle.run_words.{specs.{Commands.IsReading, Words.{Command, texts_of}}, proofs.Named.found}
use Rattle.run_words.proofs.words.read_named.Goals as goal

pub returns : goal.returns
returns c =
    subst (λ (o : Option Command). IsReading o c.command_in.result)
    (found c.args.word.now (texts_of c.args.words.now) c.in-Some.name _ (sym c.in-Some.is ∙ c.name_in.ensures)
    c.in_ok-found.ensures.found) c.command_in.ensures
