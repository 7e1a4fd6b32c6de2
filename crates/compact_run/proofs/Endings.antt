-- What stands once an answer has been delivered.
use Rattle.std.proofs.Common.{◌≡◌, ℕ, List, [], Option, Some, None, ◌⊎◌, inl, inr, refl, sym, ap, subst}
use Rattle.std.proofs.lemmas.List.{append-nil}
use Rattle.lam_io.specs.Io.{Bytes, Files, Telling, Appends, AppendsPrefix, Rose}
use Rattle.run_words.specs.Words.{Command, command_of}
use Rattle.command_files.specs.declared.status.{File.File, Side2.TheVariants.{Output, Report}, Status.Status}
use Rattle.command_files.specs.{Refusal.line_of, Fetches.{IsRefusal, IsCounted}, StepLists.{Steps, writes, reads}}
use Rattle.command_files.specs.{StepLists.{makes, StepsAsk, IsWritten}, Outputs.{Reports, write_fault_line}}
use Rattle.command_files.proofs.Coming.{done_has_memory}
use Rattle.compact_run.specs.Answers.{IsAnswer, done, refused, output_failed, report_failed, WordsWrite, RefusesWords}
use Rattle.compact_run.specs.Answers.{IsFree, NothingRefuses, AsksFor, Writes, Tells, IsUntouched, steps_of}
use Rattle.command_files.specs.declared.status.Side2.TheVariants as side
use Rattle.command_files.specs.declared.status.Status.TheVariants as statuses

-- an answer, and what it left of the output and the report
abbrev pub Answered : List Bytes → Files → Status → Option Bytes → Option Bytes → Option Bytes → Option Bytes → ℕ → ℕ
    → Type 0
Answered words files status out_old out_new told_old told_new faults_old faults_new =
    (output : List ℕ) × (line : List ℕ) × IsAnswer words files status output line
    × Writes status out_old out_new output × Tells status told_old told_new faults_old faults_new line

appends_nothing : (old : Option Bytes) → Appends old old []
appends_nothing None = refl
appends_nothing (Some bytes) = ap Some (sym (append-nil bytes))

done_is_not : (status : Status) → status ≡ statuses.Done → status ≡ statuses.WriteFault Output → ⊥
done_is_not status e f = cc

report_is_not : (status : Status) → status ≡ statuses.WriteFault Report → status ≡ statuses.WriteFault Output → ⊥
report_is_not status e f = cc

pub ends_written : (words : List Bytes) (files : Files) (status : Status)
    (out_old out_new told_old told_new : Option Bytes) (faults_old faults_new : ℕ) (output report : Bytes)
    → (status ≡ statuses.Done) ⊎ ((status ≡ statuses.WriteFault Output) ⊎ (status ≡ statuses.WriteFault Report))
    → ((status ≡ statuses.WriteFault Output → ⊥) → Appends out_old out_new output)
    → (status ≡ statuses.Done → Appends told_old told_new report)
    → (status ≡ statuses.WriteFault Output → AppendsPrefix out_old out_new output)
    → (status ≡ statuses.WriteFault Output → Reports told_old told_new faults_old faults_new write_fault_line)
    → (status ≡ statuses.WriteFault Report → AppendsPrefix told_old told_new report)
    → (status ≡ statuses.WriteFault Report → Rose faults_old faults_new)
    → WordsWrite (command_of words) files output report
    → Answered words files status out_old out_new told_old told_new faults_old faults_new
ends_written words files status out_old out_new told_old told_new faults_old faults_new output report (inl e) written
    tells prefix says cut rose wrote =
    let P : Status → Type 0 = λ s. Writes s out_old out_new output in
    let Q : Status → Type 0 = λ s. Tells s told_old told_new faults_old faults_new report in
    (output, report, done e wrote, subst P (sym e) (written (done_is_not status e)), subst Q (sym e) (tells e))
ends_written words files status out_old out_new told_old told_new faults_old faults_new output report (inr (inl e))
    written tells prefix says cut rose wrote =
    let P : Status → Type 0 = λ s. Writes s out_old out_new output in
    let Q : Status → Type 0 = λ s. Tells s told_old told_new faults_old faults_new write_fault_line in
    (output, write_fault_line, output_failed report e wrote refl, subst P (sym e) (prefix e), subst Q (sym e) (says e))
ends_written words files status out_old out_new told_old told_new faults_old faults_new output report (inr (inr e))
    written tells prefix says cut rose wrote =
    let P : Status → Type 0 = λ s. Writes s out_old out_new output in
    let Q : Status → Type 0 = λ s. Tells s told_old told_new faults_old faults_new report in (
      output,
      report,
      report_failed e wrote,
      subst P (sym e) (written (report_is_not status e)),
      subst Q (sym e)
          (cut e, rose e),
    )

-- a refusal leaves the output as it was
writes_nothing : (status : Status) (out : Option Bytes) → Writes status out out []
writes_nothing (statuses.WriteFault side.Output) out = ([], [], refl, appends_nothing out)
writes_nothing other out = appends_nothing out

pub untouched : {A : Type 0} (status : Status) (out : A) → IsUntouched status out out
untouched statuses.Done out = tt
untouched (statuses.WriteFault stream) out = tt
untouched other out = refl

tells_line : (status : Status) (old new : Option Bytes) (faults_old faults_new : ℕ) (text : Bytes) → IsRefusal status
    → Reports old new faults_old faults_new text
    → Tells status old new faults_old faults_new text
tells_line statuses.Done old new faults_old faults_new text is says = absurd is
tells_line (statuses.WriteFault stream) old new faults_old faults_new text is says = absurd is
tells_line other old new faults_old faults_new text is says = says

pub ends_refused : (words : List Bytes) (files : Files) (status : Status) (message : Bytes)
    (out told_old told_new : Option Bytes) (faults_old faults_new : ℕ)
    → IsRefusal status → RefusesWords (command_of words) files status message
    → Reports told_old told_new faults_old faults_new (line_of status message)
    → Answered words files status out out told_old told_new faults_old faults_new
ends_refused words files status message out told_old told_new faults_old faults_new is why says = (
  [],
  line_of status message,
  refused message why refl refl,
  writes_nothing status out,
  tells_line status told_old
      told_new faults_old faults_new (line_of status message) is says,
)

-- a command that has written has asked for all its files
abbrev Wrote : Status → Type 0
Wrote status = (status ≡ statuses.Done)
    ⊎ ((status ≡ statuses.WriteFault Output) ⊎ (status ≡ statuses.WriteFault Report))

is_written : (status : Status) → Wrote status → IsWritten status
is_written status (inl e) = subst IsWritten (sym e) tt
is_written status (inr (inl e)) = subst IsWritten (sym e) tt
is_written status (inr (inr e)) = subst IsWritten (sym e) tt

steps_ask : (steps : Steps) (status : Status) (old new : Option Telling) → Wrote status
    → StepsAsk steps statuses.Done old new → StepsAsk steps status old new
steps_ask (writes texts) status old new how (inl none) = absurd (done_has_memory none.0)
steps_ask (writes texts) status old new how (inr all) = inr (is_written status how, all.1)
steps_ask (reads reader name rest) status old new how (inl none) = absurd (done_has_memory none.0)
steps_ask (reads reader name rest) status old new how (inr (inl over)) = absurd over.0
steps_ask (reads reader name rest) status old new how (inr (inr (x, asks))) =
    inr (inr (x, steps_ask (rest x) status _ new how asks))
steps_ask (makes Is why rest) status old new how (inl none) = absurd (done_has_memory none.0)
steps_ask (makes Is why rest) status old new how (inr (inl over)) = absurd over.1.0
steps_ask (makes Is why rest) status old new how (inr (inr (x, is, asks))) =
    inr (inr (x, is, steps_ask (rest x) status old new how asks))

pub asks_for_all : (c : Option Command) (status : Status) (old new : Option Telling) → Wrote status
    → AsksFor c statuses.Done old new → AsksFor c status old new
asks_for_all None status old new how asks = asks
asks_for_all (Some c) status old new how asks = steps_ask (steps_of c) status old new how asks

-- ---- where nothing refuses the words

-- what may come whatever they are is then want of memory
free_is : (status : Status) → IsFree status → ((f : File) → status ≡ statuses.ReadFault f → ⊥)
    → status ≡ statuses.OutOfMemory
free_is statuses.OutOfMemory free read = refl
free_is (statuses.ReadFault file) free read = absurd (read file refl)
free_is other free read = absurd free

pub ends_free : (c : Option Command) (files : Files) (status : Status) (message : Bytes) (old new : ℕ)
    → NothingRefuses c files → RefusesWords c files status message → IsCounted old new status → (Rose old new → ⊥)
    → (status ≡ statuses.Done) ⊎ (status ≡ statuses.OutOfMemory)
ends_free c files status message old new none why counted still =
    inr (free_is status (none status message why) (λ f e. still (counted f e)))

-- and a stream that took all has no fault
pub ends_done : (status : Status) → (status ≡ statuses.Done)
    ⊎ ((status ≡ statuses.WriteFault Output) ⊎ (status ≡ statuses.WriteFault Report))
    → (status ≡ statuses.WriteFault Output → ⊥) → (status ≡ statuses.WriteFault Report → ⊥)
    → (status ≡ statuses.Done) ⊎ (status ≡ statuses.OutOfMemory)
ends_done status (inl e) no_output no_report = inl e
ends_done status (inr (inl e)) no_output no_report = absurd (no_output e)
ends_done status (inr (inr e)) no_output no_report = absurd (no_report e)
