-- The answer to some words, over files that decide it, is determined.
use Rattle.std.proofs.Common.{◌≡◌, ◌^◌, ◌≤◌, List, [], Option, Some, None, Ok, length, refl, sym, ap, ◌∙◌, subst}
use Rattle.lam_io.specs.Io.{Bytes, Files}
use Rattle.stick_text.proofs.Shapes.{read_is_writable}
use Rattle.jog_lines.specs.Scripts.{jogs_of}
use Rattle.edit_lines.specs.Scripts.{edits_of}
use Rattle.run_words.specs.Words.{Command, compact, slack, jog, edit, check, breaks, extract, nets, fmt, bench}
use Rattle.run_words.specs.Words.{command_of}
use Rattle.compact_run.specs.{declared.cif.CifJob.{CifJob, TheVariants.{Extract, Check, Breaks}}, Answers.IsAnswer}
use Rattle.compact_run.specs.Answers.{done, refused, output_failed, report_failed, WordsWrite, RefusesWords, alone}
use Rattle.compact_run.specs.{Answers.{cif_steps, steps_of, masks_of}, OneAnswer.HasOneAnswer}
use Rattle.compact_run.proofs.OneOutput.{OneOutput, text_come}
use Rattle.command_files.specs.{declared.status.Status.Status, Refusal.line_of, StepLists.{writes, reads}}
use Rattle.command_files.specs.{Readers.script_file, Fetches.IsDecided}
use Rattle.command_files.proofs.{Once.{AreOne, ComeOnce, writes_once, not_both, refused_once}, Readers.technology_once}
use Rattle.command_files.proofs.Readers.{design_once, script_once, cif_once}
use Rattle.design_commands.specs.{Slacks.SlacksTo, Nets.names_of_grids}
use Rattle.design_commands.proofs.{OneSlack.one_text, OneNets.one_text_of_nets}
use Rattle.bench_command.proofs.OneBench.{bench_once}
use Rattle.design_layouts.proofs.{OnePlan.masters_come, OneMaster.{starts_come, layout_come}}
use Rattle.jog_command.{specs.Jogs.JogsTo, proofs.OneJogs.one_script}
use Rattle.edit_command.{specs.Edits.EditsTo, proofs.OneEdits.one_session}
use Rattle.design_nets.specs.NamedNets.{IsNamedText}
use Rattle.command_files.specs.declared.status.Status.TheVariants as statuses
use Rattle.stick_print.specs.Canonical.{canonical}

-- ---- each command

-- what is written alone
alone_once : (IsOutput : Bytes → Type 0) → ((o p : Bytes) → IsOutput o → IsOutput p → o ≡ p) → (o p r s : Bytes)
    → alone IsOutput o r → alone IsOutput p s → (o ≡ p) × (r ≡ s)
alone_once IsOutput one o p r s a b = (one o p a.0 b.0, a.1 ∙ sym b.1)

cif_come_once : OneOutput → (job : CifJob) (cif tech : Bytes) → ComeOnce (cif_steps job cif tech)
cif_come_once laws job cif tech = (
  technology_once,
  λ t text short is. (
    cif_once,
    λ x message fits are. text_come laws job t x
        (subst (λ (z : Bytes). length z ≤ 2 ^ 26) (sym are) fits),
  ),
)

come_once : OneOutput → (c : Command) → ComeOnce (steps_of c)
come_once laws (compact design tech axes split) = (
  technology_once,
  λ t s a b. (
    design_once,
    λ d u f g. layout_come t axes d (masks_of t)
        (λ plan masters steps are placed o p r s a b. (a.0 ∙ sym b.0, a.1 ∙ sym b.1)),
  ),
)
come_once laws (slack design tech axes) = (
  technology_once,
  λ t s a b. (
    design_once,
    λ d u f g. layout_come t axes d (λ plan masters steps. writes (alone (SlacksTo t axes d)))
        (λ plan masters steps are placed. alone_once (SlacksTo t axes d) (one_text t axes d)),
  ),
)
come_once laws (jog design tech script axes) = (
  technology_once,
  λ t s a b. (
    design_once,
    λ d u f g.
        layout_come t axes d
        (λ plan masters steps. reads (script_file jogs_of) script (λ lines. writes (JogsTo t axes d lines)))
        (λ plan masters steps are placed. (script_once jogs_of, λ lines v h k. one_script t axes d lines)),
  ),
)
come_once laws (edit design tech script axes) = (
  technology_once,
  λ t s a b. (
    design_once,
    λ d u f g.
        starts_come t d
        (λ plan masters. reads (script_file edits_of) script
        (λ lines. writes (alone (EditsTo t axes plan.masters d lines))))
        (λ plan masters are. (
          script_once edits_of,
          λ lines v h k. alone_once (EditsTo t axes plan.masters d lines)
              (one_session t axes plan.masters d lines),
        )),
  ),
)
come_once laws (check cif tech split) = cif_come_once laws Check cif tech
come_once laws (breaks cif tech most) = cif_come_once laws (Breaks most) cif tech
come_once laws (extract cif tech) = cif_come_once laws Extract cif tech
come_once laws (nets design tech) = (
  technology_once,
  λ t s a b. (
    design_once,
    λ d u f g. masters_come t d (λ plan masters. writes (alone (IsNamedText (names_of_grids d.grids) plan masters)))
        (λ plan masters are. alone_once (IsNamedText (names_of_grids d.grids) plan masters)
        (one_text_of_nets t d plan masters (read_is_writable u (Ok d) g) are)),
  ),
)
come_once laws (fmt design) =
    (design_once, λ d text short is. alone_once (λ output. output ≡ canonical d) (λ o p a b. a ∙ sym b))
come_once laws (bench n) =
    (bench_once laws.extraction n, λ line is. alone_once (λ output. output ≡ line) (λ o p a b. a ∙ sym b))

-- ---- the words

words_write_once : OneOutput → (c : Option Command) (files : Files) (o p r s : Bytes) → WordsWrite c files o r
    → WordsWrite c files p s → (o ≡ p) × (r ≡ s)
words_write_once laws None files o p r s a b = absurd a
words_write_once laws (Some c) files o p r s a b = writes_once (steps_of c) (come_once laws c) files o p r s a b

words_not_both : OneOutput → (c : Option Command) (files : Files) (o r : Bytes) (status : Status) (message : Bytes)
    → WordsWrite c files o r → RefusesWords c files status message → IsDecided status → ⊥
words_not_both laws None files o r status message a why d = a
words_not_both laws (Some c) files o r status message a why d =
    not_both (steps_of c) (come_once laws c) files o r status message a why d

is_usage : (files : Files) (status : Status) (message : Bytes) → RefusesWords None files status message
    → IsDecided status → status ≡ statuses.Usage
is_usage files statuses.OutOfMemory message why d = absurd d
is_usage files statuses.Usage message why d = refl
is_usage files other message why d = absurd why

words_refused_once : OneOutput → (c : Option Command) (files : Files) (e f : Status) (message told : Bytes)
    → RefusesWords c files e message → RefusesWords c files f told → IsDecided e → IsDecided f
    → AreOne e f message told
words_refused_once laws None files e f message told a b d g =
    let is = is_usage files e message a d in
    let are = is_usage files f told b g in
    (is ∙ sym are, ap (λ (z : Status). line_of z message) is ∙ sym (ap (λ (z : Status). line_of z told) are))
words_refused_once laws (Some c) files e f message told a b d g =
    refused_once (steps_of c) (come_once laws c) files e f message told a b d g

-- a decided answer is that of words that are done, or are refused
data Comes (c : Option Command) (files : Files) (status : Status) (output report : Bytes) : Type 0 where
  wrote : status ≡ statuses.Done → WordsWrite c files output report → Comes c files status output report
  said : (message : Bytes) → RefusesWords c files status message → IsDecided status → output ≡ []
      → report ≡ line_of status message → Comes c files status output report

comes : (words : List Bytes) (files : Files) (status : Status) (output report : Bytes)
    → IsAnswer words files status output report → IsDecided status
    → Comes (command_of words) files status output report
comes words files status output report (done is w) d = wrote is w
comes words files status output report (refused message why o r) d = said message why d o r
comes words files status output report (output_failed unsaid is w r) d = absurd (subst IsDecided is d)
comes words files status output report (report_failed is w) d = absurd (subst IsDecided is d)

comes_once : OneOutput → (c : Option Command) (files : Files) (e f : Status) (o p r s : Bytes) → Comes c files e o r
    → Comes c files f p s → (e ≡ f) × (o ≡ p) × (r ≡ s)
comes_once laws c files e f o p r s (wrote is a) (wrote are b) = let same =
    words_write_once laws c files o p r s a b in (is ∙ sym are, same.0, same.1)
comes_once laws c files e f o p r s (wrote is a) (said message why g po ps) =
    absurd (words_not_both laws c files o r f message a why g)
comes_once laws c files e f o p r s (said message why d eo er) (wrote are b) =
    absurd (words_not_both laws c files p s e message b why d)
comes_once laws c files e f o p r s (said message why d eo er) (said told reason g po ps) =
    let same = words_refused_once laws c files e f message told why reason d g in
    (same.0, eo ∙ sym po, er ∙ (same.1 ∙ sym ps))

pub has_one_answer : OneOutput → (words : List Bytes) (files : Files) → HasOneAnswer words files
has_one_answer laws words files e f o p r s a b de df =
    comes_once laws (command_of words) files e f o p r s (comes words files e o r a de) (comes words files f p s b df)
