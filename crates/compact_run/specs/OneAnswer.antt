-- That words and files have one answer.
use Rattle.std.specs.Prelude.{◌≡◌, List}
use Rattle.lam_io.specs.Io.{Bytes, Files}
use Rattle.command_files.specs.{declared.status.Status.Status, Fetches.IsDecided}
use Rattle.compact_run.specs.Answers.{IsAnswer}

-- two answers to the words that these files decide are one
abbrev pub HasOneAnswer : List Bytes → Files → Type 0
HasOneAnswer words files =
    (status other : Status) (output text report told : Bytes) → IsAnswer words files status output report
    → IsAnswer words files other text told
    → IsDecided status → IsDecided other → (status ≡ other) × (output ≡ text) × (report ≡ told)
