-- What is made of a CIF text is one at each step, and so is why nothing is.
use Rattle.std.proofs.{Common.{◌≡◌, ◌^◌, ◌≤◌, ℕ, List, length, refl, sym, ap, ◌∙◌, arith}, lemmas.List.length-map}
use Rattle.lam_geom.specs.declared.boxes.MaskBox.{MaskBox}
use Rattle.lam_io.specs.Io.{Bytes}
use Rattle.rule_table.specs.declared.technology.Tech.{Tech}
use Rattle.cif_answers.specs.Texts.{AnswersAreDetermined, HasBoxes, HasBreaks, HasNetlist, HasVerdict, RefusesBreaks}
use Rattle.cif_answers.{specs.Texts.{RefusesNetlist, RefusesVerdict}, proofs.Determined.boxes_same}
use Rattle.cif_answers.specs.declared.fault.TextFault.TheVariants as fault
use Rattle.cif_read.specs.{Files.drawn_of, Hierarchies.{Drawn, flattened}}
use Rattle.cif_foreign.specs.Meaning.{ForeignReadingsAreDetermined}
use Rattle.net_model.specs.Laws.{IsExtractionDetermined}
use Rattle.command_files.specs.declared.status.{What.TheVariants.Boxes, Status.Status}
use Rattle.command_files.proofs.Once.{ComeOnce, IsFault, MakesOnce, once_by}
use Rattle.compact_run.specs.declared.cif.CifJob.{CifJob, TheVariants.{Extract, Check, Breaks}}
use Rattle.compact_run.specs.Answers.{text_refusal, HasOutput, NoBoxes, NoOutput, RefusesOutput, text_steps}
use Rattle.command_files.specs.declared.status.Status.TheVariants as statuses

-- the laws of netlists, of verdicts, of breaks, of extraction and of readings
abbrev AreDetermined : CifJob → Type 0
AreDetermined job = (tech : Tech) (text : Bytes) → length text ≤ 2 ^ 26
    → AnswersAreDetermined (HasOutput job) (RefusesOutput job) tech text

pub record OneOutput : Type 0 where
  pub netlist : (tech : Tech) (text : Bytes) → length text ≤ 2 ^ 26
      → AnswersAreDetermined HasNetlist RefusesNetlist tech text
  pub verdict : (tech : Tech) (text : Bytes) → length text ≤ 2 ^ 26
      → AnswersAreDetermined HasVerdict RefusesVerdict tech text
  pub breaks : (most : ℕ) (tech : Tech) (text : Bytes) → length text ≤ 2 ^ 26
      → AnswersAreDetermined (λ t x output. HasBreaks t most x output) RefusesBreaks tech text
  pub extraction : IsExtractionDetermined
  pub readings : ForeignReadingsAreDetermined

of_job : OneOutput → (job : CifJob) → AreDetermined job
of_job laws Extract = laws.netlist
of_job laws Check = laws.verdict
of_job laws (Breaks most) = laws.breaks most

-- ---- boxes

-- a text that has boxes is not refused for them
pub boxed_too : ForeignReadingsAreDetermined → (text : Bytes) → length text ≤ 2 ^ 26
    → (status : Status) (message : Bytes) (boxes : List MaskBox) → HasBoxes text boxes → NoBoxes text status message
    → ⊥
boxed_too readings text short (statuses.BadCif f) message boxes has why =
    readings.not_both text has.hierarchy f short has.means why.0
boxed_too readings text short (statuses.TooLarge Boxes) message boxes has why =
    let hierarchy = readings.one_hierarchy text has.hierarchy why.hierarchy short has.means why.means in
    let few = has.few in
    let many = why.many in
    omega (
      arith,
      few,
      many,
      length-map boxes drawn_of,
      ap (λ (ds : List Drawn). length ds)
          (has.drawn ∙ ap flattened hierarchy),
    )
boxed_too readings text short other message boxes has why = why

-- why it has none, and why nothing is made of them, as a fault
unboxed : (tech : Tech) (text : Bytes) (status : Status) (message : Bytes) → NoBoxes text status message
    → IsFault (RefusesBreaks tech text) fault.OutOfMemory text_refusal status message
unboxed tech text (statuses.BadCif f) message why = (fault.Cif f, why.0, λ e. cc, refl, why.1)
unboxed tech text (statuses.TooLarge Boxes) message why = (fault.TooMany, why, λ e. cc, refl, refl)
unboxed tech text other message why = absurd why

unmade : (job : CifJob) (tech : Tech) (text : Bytes) (status : Status) (message : Bytes)
    → NoOutput job tech text status message
    → IsFault (RefusesOutput job tech text) fault.OutOfMemory text_refusal status message
unmade Extract tech text (statuses.NotProper a b) message why = (fault.NotProper a b, why.0, λ e. cc, refl, why.1)
unmade Check tech text (statuses.RuleBroken rule a b) message why =
    (fault.Broken (record { rule = rule; a = a; b = b }), why.0, λ e. cc, refl, why.1)
unmade job tech text other message why = absurd why

-- ---- the steps

pub text_come : OneOutput → (job : CifJob) (tech : Tech) (text : Bytes) → length text ≤ 2 ^ 26
    → ComeOnce (text_steps job tech text)
text_come laws job tech text short =
    (boxes_once, λ boxes has. (output_once, λ made is o p r s a b. (a.0 ∙ sym b.0, a.1 ∙ sym b.1)))
  where
    boxes_once : MakesOnce (HasBoxes text) (NoBoxes text)
    boxes_once =
        once_by (RefusesBreaks tech text) fault.OutOfMemory text_refusal
        (λ e f h k named also. (laws.breaks 0 tech text short).one_cause e f named also h k) (unboxed tech text)
        (boxes_same text (record { short = short; readings = laws.readings })) (boxed_too laws.readings text short)

    output_once : MakesOnce (HasOutput job tech text) (NoOutput job tech text)
    output_once =
        let law = of_job laws job tech text short in
        once_by (RefusesOutput job tech text) fault.OutOfMemory text_refusal
        (λ e f h k named also. law.one_cause e f named also h k) (unmade job tech text) law.one_output
        (λ status message output made why.
        (let f = unmade job tech text status message why in law.not_both output f.0 f.2 made f.1))
