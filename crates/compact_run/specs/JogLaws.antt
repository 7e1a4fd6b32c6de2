-- What holds of all jogs.
use Rattle.std.specs.Prelude.{◌↔◌, ℕ, ℤ, Bool, List}
use Rattle.lam_geom.specs.declared.boxes.Axis.{Axis}
use Rattle.lam_io.specs.Io.{Bytes, Files}
use Rattle.rule_table.specs.declared.technology.Tech.{Tech}
use Rattle.stick_text.specs.{declared.design.Design.Design as Sticks, Writable.IsWritable}
use Rattle.stick_print.specs.Canonical.{canonical}
use Rattle.cell_model.specs.declared.cell.Cell.{Cell}
use Rattle.jog_lines.specs.declared.script.JogLine.{JogLine}
use Rattle.jog_insert.specs.Jogs.{IsJogged}
use Rattle.command_files.specs.{declared.status.File.TheVariants.Design, Fetches.HasFile, Readers.IsTechnology}
use Rattle.compact_run.specs.Answers.{IsCompacted}
use Rattle.jog_command.specs.Jogs.{IsLaidOutAs, IsNoWider, JogsTo}

-- After a script of jogs `compact` lays out the last design, and no master is wider than before them.
abbrev pub JogsWidenNoCell : Type 0
JogsWidenNoCell =
    (tech : Tech) (axes : List Axis) (design : Sticks) (lines : List JogLine) (output report : Bytes)
    (j : JogsTo tech axes design lines output report)
    → IsLaidOutAs tech axes j.last j.last_numbers j.at_last × IsNoWider j.widths j.at_last

-- A jogged design that has a text is laid out exactly where `compact` is done with its canonical text in a file.
abbrev pub AreJudgedAsTexts : Type 0
AreJudgedAsTexts =
    (design new : Sticks) (content : Cell) (masters : List ℕ) (cell k row : ℕ) (left : Bool)
    → IsJogged design content masters cell k row left new → IsWritable new
    → (technology : Tech) (axes : List Axis) (files : Files) (name tech : Bytes)
    → HasFile files Design name (canonical new) → IsTechnology files tech technology
    → ((numbers : List ℕ) × (widths : List ℤ) × IsLaidOutAs technology axes new numbers widths)
    ↔ ((output : Bytes) × (report : Bytes) × IsCompacted name tech axes files output report)
