-- What the program answers: the status, the output and the report, from the words of the command line and the files
-- that they name.
use Rattle.std.specs.Prelude.{◌≡◌, ℕ, ◌≤◌, ◌⊎◌, Option, Some, None, Result, Ok, Err, IfErr, List, []}
use Rattle.lam_geom.specs.declared.boxes.Axis.{Axis}
use Rattle.lam_io.specs.Io.{Bytes, Files, Telling, Appends, AppendsPrefix, Rose}
use Rattle.rule_table.specs.declared.technology.Tech.{Tech}
use Rattle.cif_foreign.specs.Meaning.{IsFirstFault}
use Rattle.cif_answers.specs.declared.fault.TextFault.{TextFault}
use Rattle.cif_answers.specs.Texts.{HasBoxes, HasNetlist, HasVerdict, HasBreaks, HasTooManyBoxes, IsNotProper}
use Rattle.cif_answers.specs.Texts.{IsFirstBreakOf, RefusesNetlist, RefusesVerdict, RefusesBreaks}
use Rattle.cif_answers.specs.declared.fault.TextFault.TheVariants as cif
use Rattle.stick_text.specs.declared.design.Design.{Design as Sticks}
use Rattle.stick_print.specs.Canonical.{canonical}
use Rattle.expand.specs.declared.master.Master.{Master}
use Rattle.plan_model.specs.declared.plan.Plan.{Plan}
use Rattle.pass_run.specs.declared.step.Step.{Step}
use Rattle.command_files.specs.declared.{output.Output.Output, refusal.Refusal.Refusal, status.Status.Status}
use Rattle.command_files.specs.{declared.status.What.TheVariants.Boxes, Fetches.{IsCounted, IsRefusal}, StepLists.Steps}
use Rattle.command_files.specs.{StepLists.{writes, reads, makes, StepsWrite, Refuses, Stops, StepsAsk}, Refusal.line_of}
use Rattle.command_files.specs.{Refusals.{plain, told, Refused, status_of}, Readers.{technology_file, design_file}}
use Rattle.command_files.specs.{Readers.{script_file, cif_file}, Outputs.{text_of, write_fault_line, Reports}}
use Rattle.compact_run.specs.declared.cif.CifJob.{CifJob, TheVariants.{Extract, Check, Breaks}}
use Rattle.design_commands.specs.{Nets.names_of_grids, Slacks.SlacksTo}
use Rattle.bench_command.specs.Bench.{IsBenched, RefusesBench}
use Rattle.design_layouts.specs.{Plans.with_masters, Designs.{with_starts, with_layout, masks_text, passes_text}}
use Rattle.jog_command.specs.Jogs.{JogsTo}
use Rattle.edit_command.specs.Edits.{EditsTo}
use Rattle.design_nets.specs.NamedNets.{IsNamedText}
use Rattle.fault_lines.specs.FaultLines.{cif_line, improper_line, broken_line}
use Rattle.command_files.specs.declared.status.Side2.TheVariants as side
use Rattle.command_files.specs.declared.status.Status.TheVariants as statuses
use Rattle.jog_lines.specs.Scripts.{jogs_of}
use Rattle.edit_lines.specs.Scripts.{edits_of}
use Rattle.run_words.specs.Words.{Command, compact, slack, jog, edit, check, breaks, extract, nets, fmt, bench}
use Rattle.run_words.specs.{Words.command_of, declared.commands.WordsFault.WordsFault}
use Rattle.run_words.specs.declared.commands.WordsFault.TheVariants as words

-- ---- what is done with a CIF text

-- what is made of a CIF text: its netlist, that it keeps the rules, or its first breaks
abbrev pub HasOutput : CifJob → Tech → Bytes → Bytes → Type 0
HasOutput Extract = HasNetlist
HasOutput Check = HasVerdict
HasOutput (Breaks most) = λ tech text output. HasBreaks tech most text output

-- why there is none
abbrev pub RefusesOutput : CifJob → Tech → Bytes → TextFault → Type 0
RefusesOutput Extract = RefusesNetlist
RefusesOutput Check = RefusesVerdict
RefusesOutput (Breaks most) = RefusesBreaks

-- why nothing is made of a CIF text
abbrev pub text_refusal : TextFault → Refusal
text_refusal (cif.Cif fault) = told (statuses.BadCif fault) (cif_line fault)
text_refusal cif.TooMany = plain (statuses.TooLarge Boxes)
text_refusal (cif.NotProper a b) = told (statuses.NotProper a b) (improper_line a b)
text_refusal (cif.Broken first) =
    told (statuses.RuleBroken first.rule first.a first.b) (broken_line first.rule first.a first.b)
text_refusal cif.OutOfMemory = plain statuses.OutOfMemory

-- ---- the commands

-- an output with no report
abbrev pub alone : (Bytes → Type 0) → Bytes → Bytes → Type 0
alone IsOutput output report = IsOutput output × (report ≡ [])

-- the technology is read and then the design
abbrev pub over_design : Bytes → Bytes → (Tech → Sticks → Steps) → Steps
over_design design tech rest =
    reads technology_file tech (λ technology. reads design_file design (λ sticks. rest technology sticks))

-- Why a CIF text has no boxes: its first fault, or there are too many.
abbrev pub NoBoxes : Bytes → Status → Bytes → Type 0
NoBoxes text (statuses.BadCif fault) message = IsFirstFault text fault × (message ≡ cif_line fault)
NoBoxes text (statuses.TooLarge Boxes) message = HasTooManyBoxes text
NoBoxes text other message = ⊥

-- Why they have no netlist, or no verdict: the first pair that does not cross properly, or the first break of a rule.
abbrev pub NoOutput : CifJob → Tech → Bytes → Status → Bytes → Type 0
NoOutput Extract tech text (statuses.NotProper a b) message = IsNotProper tech text a b × (message ≡ improper_line a b)
NoOutput Check tech text (statuses.RuleBroken rule a b) message =
    IsFirstBreakOf tech text (record { rule = rule; a = a; b = b }) × (message ≡ broken_line rule a b)
NoOutput job tech text other message = ⊥

-- boxes; netlist, verdict or list; text
abbrev pub text_steps : CifJob → Tech → Bytes → Steps
text_steps job tech text =
    makes (HasBoxes text) (NoBoxes text) (λ boxes.
    makes (HasOutput job tech text) (NoOutput job tech text) (λ made. writes (alone (λ output. output ≡ made))))

-- why nothing is made of it
abbrev pub RefusesText : CifJob → Tech → Bytes → Status → Bytes → Type 0
RefusesText job tech text = Stops (text_steps job tech text)

-- technology, CIF text, and what is made of it
abbrev pub cif_steps : CifJob → Bytes → Bytes → Steps
cif_steps job cif tech =
    reads technology_file tech (λ technology. reads cif_file cif (text_steps job technology))

-- the masks and the report of passes are written
abbrev pub masks_of : Tech → Plan → List Master → List Step → Steps
masks_of tech plan masters steps =
    writes (λ output report. (output ≡ masks_text tech plan masters steps)
    × (report ≡ passes_text tech plan masters steps))

-- The steps of each command, in order. The number of shares is in none of them.
abbrev pub steps_of : Command → Steps
steps_of (compact design tech axes split) =
    over_design design tech (λ technology sticks. with_layout technology axes sticks (masks_of technology))
steps_of (slack design tech axes) =
    over_design design tech (λ technology sticks. with_layout technology axes sticks (λ plan masters steps.
    writes (alone (SlacksTo technology axes sticks))))
steps_of (jog design tech script axes) =
    over_design design tech (λ technology sticks. with_layout technology axes sticks (λ plan masters steps.
    reads (script_file jogs_of) script (λ lines. writes (JogsTo technology axes sticks lines))))
steps_of (edit design tech script axes) =
    over_design design tech (λ technology sticks. with_starts technology sticks (λ plan masters.
    reads (script_file edits_of) script (λ lines. writes (alone (EditsTo technology axes plan.masters sticks lines)))))
steps_of (check cif tech split) = cif_steps Check cif tech
steps_of (breaks cif tech most) = cif_steps (Breaks most) cif tech
steps_of (extract cif tech) = cif_steps Extract cif tech
steps_of (nets design tech) =
    over_design design tech (λ technology sticks. with_masters technology sticks (λ plan masters.
    writes (alone (IsNamedText (names_of_grids sticks.grids) plan masters))))
steps_of (fmt design) = reads design_file design (λ sticks. writes (alone (λ output. output ≡ canonical sticks)))
steps_of (bench n) = makes (IsBenched n) (RefusesBench n) (λ line. writes (alone (λ output. output ≡ line)))

-- what `compact` writes
abbrev pub IsCompacted : Bytes → Bytes → List Axis → Files → Bytes → Bytes → Type 0
IsCompacted design tech axes = StepsWrite (steps_of (compact design tech axes 1))

-- why it is refused
abbrev pub RefusesCompact : Bytes → Bytes → List Axis → Files → Status → Bytes → Type 0
RefusesCompact design tech axes = Refuses (steps_of (compact design tech axes 1))

-- what `extract`, `check` or `breaks` writes
abbrev pub IsCheckedOrExtracted : CifJob → Bytes → Bytes → Files → Bytes → Type 0
IsCheckedOrExtracted job cif tech files output = StepsWrite (cif_steps job cif tech) files output []

-- ---- the words

-- What they write into the output and into the report.
abbrev pub WordsWrite : Option Command → Files → Bytes → Bytes → Type 0
WordsWrite None files output report = ⊥
WordsWrite (Some command) files output report = StepsWrite (steps_of command) files output report

-- Why they are refused: they are no command, or their command is refused.
abbrev pub RefusesWords : Option Command → Files → Status → Bytes → Type 0
RefusesWords None files statuses.OutOfMemory message = Unit {0}
RefusesWords None files statuses.Usage message = Unit {0}
RefusesWords None files other message = ⊥
RefusesWords (Some command) files status message = Refuses (steps_of command) files status message

-- this may come whatever the words and the files are: memory runs out, or a file can't be read
abbrev pub IsFree : Status → Type 0
IsFree statuses.OutOfMemory = Unit {0}
IsFree (statuses.ReadFault file) = Unit {0}
IsFree other = ⊥

-- no other cause refuses the words
abbrev pub NothingRefuses : Option Command → Files → Type 0
NothingRefuses command files = (status : Status) (message : Bytes) → RefusesWords command files status message
    → IsFree status

-- The shelf's files are as they were, and it was asked for those of the words' command, up to the one over which it
-- ended; a prefix of them where memory ran out.
abbrev pub AsksFor : Option Command → Status → Option Telling → Option Telling → Type 0
AsksFor None status old new = new ≡ old
AsksFor (Some command) status old new = StepsAsk (steps_of command) status old new

-- The answer to the words before anything is written: an output, or a refusal.
abbrev pub IsGiven : Option Command → Files → Result Output Refusal → Type 0
IsGiven command files (Ok output) = WordsWrite command files (text_of output) output.report
IsGiven command files (Err r) = Refused (RefusesWords command files) r

-- words are refused exactly where they are no command, unless memory runs out
abbrev pub IsUsage : Option Command → Status → Type 0
IsUsage command status = (status ≡ statuses.Usage → command ≡ None)
    × (command ≡ None → (status ≡ statuses.Usage) ⊎ (status ≡ statuses.OutOfMemory))

-- what words that are refused come to
abbrev pub status_by : WordsFault → Status
status_by words.Usage = statuses.Usage
status_by words.OutOfMemory = statuses.OutOfMemory

-- What words came to.
pub record IsOutcome (command : Option Command) (old new : Option Telling) (faults risen : ℕ)
    (result : Result Output Refusal) : Type 0 where
  pub given : (t : Telling) → old ≡ Some t → IsGiven command t.files result
  pub usage : IsUsage command (status_of result)
  pub refusal : IfErr result (λ r. IsRefusal r.status)
  pub asked : AsksFor command (status_of result) old new
  pub counted : IsCounted faults risen (status_of result)
  pub counts : faults ≤ risen

-- The answer to the words, over these files: the status, the whole output and the whole report.
pub data IsAnswer (words : List Bytes) (files : Files) (status : Status) (output report : Bytes) : Type 0 where
  done : status ≡ statuses.Done → WordsWrite (command_of words) files output report
      → IsAnswer words files status output report
  refused : (message : Bytes) → RefusesWords (command_of words) files status message → output ≡ []
      → report ≡ line_of status message → IsAnswer words files status output report
  output_failed : (unsaid : Bytes) → status ≡ statuses.WriteFault side.Output
      → WordsWrite (command_of words) files output unsaid → report ≡ write_fault_line
      → IsAnswer words files status output report
  report_failed : status ≡ statuses.WriteFault side.Report → WordsWrite (command_of words) files output report
      → IsAnswer words files status output report

-- the output grew by the whole text, or by a prefix of it where its put failed
abbrev pub Writes : Status → Option Bytes → Option Bytes → Bytes → Type 0
Writes (statuses.WriteFault side.Output) old new output = AppendsPrefix old new output
Writes other old new output = Appends old new output

-- The report grew by the whole text of a command that was done, and by a prefix of it where its put failed. The line
-- of a refusal may fail without a change of the status.
abbrev pub Tells : Status → Option Bytes → Option Bytes → ℕ → ℕ → Bytes → Type 0
Tells statuses.Done old new faults_old faults_new text = Appends old new text
Tells (statuses.WriteFault side.Report) old new faults_old faults_new text =
    AppendsPrefix old new text × Rose faults_old faults_new
Tells other old new faults_old faults_new text = Reports old new faults_old faults_new text

-- the output's sink is as it was, unless its put was tried
abbrev pub IsUntouched : {A : Type 0} → Status → A → A → Type 0
IsUntouched statuses.Done old new = Unit {0}
IsUntouched (statuses.WriteFault side) old new = Unit {0}
IsUntouched other old new = new ≡ old
