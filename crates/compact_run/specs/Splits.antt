-- That the number of shares changes no answer.
use Rattle.std.specs.Prelude.{◌≡◌, ℕ, List, Some}
use Rattle.lam_geom.specs.declared.boxes.Axis.{Axis}
use Rattle.lam_io.specs.Io.{Bytes, Files}
use Rattle.run_words.specs.Words.{compact, check, command_of}
use Rattle.command_files.specs.declared.status.Status.{Status}
use Rattle.compact_run.specs.Answers.{IsAnswer}

-- an answer to the ones is an answer to the others
abbrev pub AnswerAlike : List Bytes → List Bytes → Type 0
AnswerAlike words others = (files : Files) (status : Status) (output report : Bytes)
    → IsAnswer words files status output report → IsAnswer others files status output report

-- Words of `compact`, or of `check`, that ask for the same of the same files, but for the number of shares, have the
-- same answers.
pub record SplitsAnswerAlike : Type 0 where
  pub of_compact : (words others : List Bytes) (design tech : Bytes) (axes : List Axis) (split other_split : ℕ)
      → command_of words ≡ Some (compact design tech axes split)
      → command_of others ≡ Some (compact design tech axes other_split) → AnswerAlike words others
  pub of_check : (words others : List Bytes) (cif tech : Bytes) (split other_split : ℕ)
      → command_of words ≡ Some (check cif tech split) → command_of others ≡ Some (check cif tech other_split)
      → AnswerAlike words others
