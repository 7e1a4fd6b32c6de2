use Rattle.std.{proofs.Common.{◌∙◌, ap, List, ℕ}, specs.Borrow.Bor}
use Rattle.clap.specs.Words.{found_of}
use Rattle.run_words.proofs.Texts.{text_or_read}
use Rattle.run_words.proofs.lines.text_or.Goals as goal

pub returns : goal.returns
returns c = ap (λ (s : Bor (List ℕ)). s.now) c.unwrap_or.ensures
    ∙ text_or_read (found_of c.args.found.now) c.args.id.now c.get_str.result c.args.other c.get_str.ensures
