use Rattle.std.proofs.lemmas.Result.{MatchResult-weaker}
use Rattle.edit_lines.proofs.Texts.{edits_have_text}
use Rattle.edit_lines.proofs.reading.read_edits.Goals as goal

pub returns-clause-written : goal.returns-clause-written
returns-clause-written c = MatchResult-weaker c.read_script.result c.read_script.ensures
    (λ edits e. edits_have_text c.args.text.now edits.items e) (λ fault e. tt)
