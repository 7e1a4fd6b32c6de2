-- The number of shares changes no answer: no step of a command speaks of it.
use Rattle.std.proofs.Common.{◌≡◌, List, Option, Some, sym, subst}
use Rattle.lam_io.specs.Io.{Bytes, Files}
use Rattle.run_words.specs.Words.{Command, command_of}
use Rattle.command_files.specs.declared.status.Status.{Status}
use Rattle.compact_run.specs.Answers.{IsAnswer, done, refused, output_failed, report_failed, RefusesWords, WordsWrite}
use Rattle.compact_run.specs.Splits.{AnswerAlike, SplitsAnswerAlike}

-- words whose commands have the same steps
alike : (words others : List Bytes) (c d : Command) → command_of words ≡ Some c → command_of others ≡ Some d
    → ((files : Files) (output report : Bytes) → WordsWrite (Some c) files output report
    → WordsWrite (Some d) files output report)
    → ((files : Files) (status : Status) (message : Bytes) → RefusesWords (Some c) files status message
    → RefusesWords (Some d) files status message)
    → AnswerAlike words others
alike words others c d e f write refuse files status output report answer = go answer
  where
    wrote : (o r : Bytes) → WordsWrite (command_of words) files o r → WordsWrite (command_of others) files o r
    wrote o r w = let W : Option Command → Type 0 =
        λ z. WordsWrite z files o r in subst W (sym f) (write files o r (subst W e w))

    go : IsAnswer words files status output report → IsAnswer others files status output report
    go (done is w) = done is (wrote output report w)
    go (refused message why o r) = let R : Option Command → Type 0 =
        λ z. RefusesWords z files status message in refused message
        (subst R (sym f) (refuse files status message (subst R e why))) o r
    go (output_failed unsaid is w r) = output_failed unsaid is (wrote output unsaid w) r
    go (report_failed is w) = report_failed is (wrote output report w)

pub splits_answer_alike : SplitsAnswerAlike
splits_answer_alike = record {
  of_compact = λ words others design tech axes split other e f.
      alike words others _ _ e f (λ files o r w. w) (λ files status message why. why);
  of_check = λ words others cif tech split other e f.
      alike words others _ _ e f (λ files o r w. w) (λ files status message why. why);
}
