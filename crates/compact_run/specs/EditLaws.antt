-- What holds of all edits.
use Rattle.std.specs.{Prelude.{◌≡◌, ◌↔◌, ℕ, List, Some}, FinMap.get}
use Rattle.lam_geom.specs.declared.boxes.Axis.{Axis}
use Rattle.lam_io.specs.Io.{Bytes, Files}
use Rattle.rule_table.specs.declared.technology.Tech.{Tech}
use Rattle.stick_text.specs.{declared.design.Design.Design as Sticks, Writable.IsWritable}
use Rattle.stick_print.specs.Canonical.{canonical}
use Rattle.edit_lines.specs.declared.script.EditLine.{EditLine}
use Rattle.command_files.specs.{declared.status.Status.Status, Readers.{IsTechnology, IsDesign}, Fetches.IsDecided}
use Rattle.design_layouts.specs.Designs.{last_layouts}
use Rattle.design_commands.specs.Compact.{CompactsTo}
use Rattle.edit_command.specs.Edits.{Changes, IsAnswered, code_word, done_word}
use Rattle.compact_run.specs.Answers.{RefusesCompact}

-- What `compact` answers over the design of one file under the technology of the other, in a word: the sizes of the
-- masters that it lays out, or why it is refused.
pub data CompactAnswers (design tech : Bytes) (axes : List Axis) (files : Files) (word : Bytes) : Type 0 where
  compacted : (technology : Tech) (sticks : Sticks) → IsTechnology files tech technology → IsDesign files design sticks
      → (output report : Bytes) (c : CompactsTo technology axes sticks output report)
      → word ≡ done_word c.masters (last_layouts technology c.masters c.steps)
      → CompactAnswers design tech axes files word
  refused : (status : Status) (message : Bytes) → RefusesCompact design tech axes files status message
      → IsDecided status → word ≡ code_word status → CompactAnswers design tech axes files word

-- Where `compact` answers over the canonical text, in a file, of a design that a line has made, its answer is the
-- word on that design, and there is no other.
abbrev pub AreEditsJudgedAsTexts : Type 0
AreEditsJudgedAsTexts =
    (technology : Tech) (axes : List Axis) (design new : Sticks) (numbers : List ℕ) (line : EditLine)
    → Changes technology design numbers line new → IsWritable new
    → (files : Files) (name tech answer : Bytes) → get files name ≡ Some (canonical new)
    → IsTechnology files tech technology → CompactAnswers name tech axes files answer
    → (word : Bytes) → IsAnswered technology axes new word ↔ (word ≡ answer)
