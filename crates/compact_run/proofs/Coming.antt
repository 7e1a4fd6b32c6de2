-- What the steps of each command come to.
use Rattle.std.proofs.Common.{◌≡◌, ℕ, Option, Some, None, Result, Ok, Err, IfOk, IfErr, List, [], inl, inr, refl, sym}
use Rattle.std.proofs.Common.{subst, arith}
use Rattle.lam_geom.specs.declared.boxes.Axis.{Axis}
use Rattle.lam_io.specs.Io.{Bytes, Files, Telling}
use Rattle.rule_table.specs.declared.technology.Tech.{Tech}
use Rattle.stick_text.specs.declared.design.Design.{Design as Sticks}
use Rattle.expand.specs.declared.master.Master.{Master}
use Rattle.plan_model.specs.declared.plan.Plan.{Plan}
use Rattle.design_gen.specs.Made.{made}
use Rattle.run_words.specs.{Words.Command, declared.commands.WordsFault.WordsFault}
use Rattle.run_words.specs.declared.commands.WordsFault.TheVariants as words
use Rattle.compact_run.specs.declared.cif.CifJob.{CifJob, TheVariants.{Extract, Check, Breaks}}
use Rattle.compact_run.specs.Answers.{status_by, IsGiven, masks_of, HasOutput, IsOutcome, text_steps, RefusesWords}
use Rattle.compact_run.specs.Answers.{AsksFor, steps_of, text_refusal, RefusesOutput, RefusesText}
use Rattle.command_files.specs.declared.{output.Output.Output, refusal.Refusal.Refusal, status.Status.Status}
use Rattle.command_files.specs.{Fetches.{IsRefusal, IsRefused, IsJudgement}, StepLists.{Steps, ends}}
use Rattle.command_files.specs.{Refusal.message_text, Refusals.{Refused, status_of, plain}, Outputs.{AreGiven, ComeTo}}
use Rattle.command_files.specs.Outputs.{text_of}
use Rattle.command_files.proofs.{Coming.{all_done, so_on, stopped}, Stopping.{asks_no_more, stops_judged}}
use Rattle.design_layouts.specs.{Designs.{ArePlaced, RefusesDesign, with_layout}, Plans.with_masters}
use Rattle.design_commands.specs.Compact.{CompactsTo}
use Rattle.bench_command.specs.Bench.{RefusesBench, x_then_y}
use Rattle.pass_run.specs.declared.step.Step.{Step}
use Rattle.design_masters.specs.Plans.{AreMastersOf}
use Rattle.command_files.specs.declared.status.Status.TheVariants as statuses
use Rattle.cif_answers.specs.declared.fault.TextFault.{TextFault}
use Rattle.cif_answers.specs.declared.fault.TextFault.TheVariants as cif

-- ---- what is made

-- masters are made, their start layouts are clean, they are laid out
pub made_on : {tech : Tech} {design : Sticks} {rest : Plan → List Master
    → Steps} {old new : Option Telling} {faults risen : ℕ} {result : Result Output
    Refusal} (plan : Plan) (masters : List Master)
    → AreMastersOf tech design plan masters → ComeTo (rest plan masters) old new faults risen result
    → ComeTo (with_masters tech design rest) old new faults risen result
made_on plan masters are then = so_on plan (are.cells, are.planned) (so_on masters are then)

pub laid_on : {tech : Tech} {axes : List Axis} {design : Sticks} {rest : Plan → List Master → List Step
    → Steps} {old new : Option Telling} {faults risen : ℕ} {result : Result Output Refusal}
    (plan : Plan) (masters : List Master) (steps : List Step) → AreMastersOf tech design plan masters
    → ArePlaced tech plan masters axes steps
    → ComeTo (rest plan masters steps) old new faults risen result
    → ComeTo (with_layout tech axes design rest) old new faults risen result
laid_on plan masters steps are placed then =
    so_on plan (are.cells, are.planned)
    (so_on masters are (so_on tt placed.made.clean (so_on steps placed.made (so_on tt placed then))))

-- what `compact` comes to
pub compacted : (tech : Tech) (axes : List Axis) (design : Sticks) {told : Option Telling} {faults : ℕ}
    (result : Result Output Refusal) → IfOk result (λ o. CompactsTo tech axes design (text_of o) o.report)
    → IfErr result (Refused (RefusesDesign tech axes design))
    → ComeTo (with_layout tech axes design (masks_of tech)) told told faults faults result
compacted tech axes design (Ok output) done why =
    laid_on done.plan done.masters done.steps done.are_masters done.laid_out (all_done (done.written, done.reported))
compacted tech axes design (Err r) done why = stopped why

-- why nothing is made of a CIF text
pub text_refused : (job : CifJob) (tech : Tech) (text : Bytes) (f : TextFault) → RefusesOutput job tech text f
    → Refused (RefusesText job tech text) (text_refusal f)
text_refused Extract tech text (cif.Cif f) why = inr (inl (tt, (why, refl)))
text_refused Check tech text (cif.Cif f) why = inr (inl (tt, (why, refl)))
text_refused (Breaks most) tech text (cif.Cif f) why = inr (inl (tt, (why, refl)))
text_refused Extract tech text cif.TooMany why = inr (inl (tt, why))
text_refused Check tech text cif.TooMany why = inr (inl (tt, why))
text_refused (Breaks most) tech text cif.TooMany why = inr (inl (tt, why))
text_refused Extract tech text (cif.NotProper a b) why = inr (inr (why.boxes, why.are_boxes, inl (tt, (why, refl))))
text_refused Check tech text (cif.Broken first) why = inr (inr (why.boxes, why.are_boxes, inl (tt, (why, refl))))
text_refused job tech text cif.OutOfMemory why = inl refl
text_refused job tech text other why = absurd why

-- what is made of a CIF text
pub told_on : (job : CifJob) (tech : Tech) (text made : Bytes) {told : Option Telling} {faults : ℕ} {output : Output}
    → HasOutput job tech text made
    → (text_of output ≡ made) × (output.report ≡ [])
    → ComeTo (text_steps job tech text) told told faults faults (Ok output)
told_on Extract tech text made h is = so_on h.boxes h.are_boxes (so_on made h (all_done is))
told_on Check tech text made h is = so_on h.boxes h.are_boxes (so_on made h (all_done is))
told_on (Breaks most) tech text made h is = so_on h.boxes h.are_boxes (so_on made h (all_done is))

-- ---- a made design

pub bench_judged : (n : ℕ) (status : Status) (message : Bytes) → RefusesBench n status message → IsJudgement status
bench_judged n statuses.OutOfMemory message why = tt
bench_judged n (statuses.BadSticks fault) message why = absurd why
bench_judged n (statuses.TooLarge what) message why = tt
bench_judged n other message why =
    stops_judged (with_layout why.technology x_then_y (made n) (λ plan masters steps. ends)) other message why.why

-- ---- the words

of_words : (status : Status) → IsRefused status → IsRefusal status
of_words statuses.Usage is = absurd is
of_words other is = is

no_usage : (r : Result Output Refusal) → IfErr r (λ e. IsRefused e.status) → status_of r ≡ statuses.Usage → ⊥
no_usage (Ok output) is e = let same : statuses.Done ≡ statuses.Usage = e in cc
no_usage (Err r) is e = subst IsRefused e is

refuses : (r : Result Output Refusal) → IfErr r (λ e. IsRefused e.status) → IfErr r (λ e. IsRefusal e.status)
refuses (Ok output) is = tt
refuses (Err r) is = of_words r.status is

gives : (x : Command) (files : Files) (r : Result Output Refusal) → AreGiven (steps_of x) files r
    → IsGiven (Some x) files r
gives x files (Ok output) given = given
gives x files (Err r) why = why

no_command : (x : Command) → Some x ≡ None → ⊥
no_command x e = cc

-- words come to what their command comes to
pub of_command : {c : Option Command} {x : Command} {old new : Option Telling} {faults risen : ℕ} {result : Result
    Output Refusal} → c ≡ Some x
    → ComeTo (steps_of x) old new faults risen result → IsOutcome c old new faults risen result
of_command {c} {x} {old} {new} {faults} {risen} {result} is came =
    subst (λ (z : Option Command). IsOutcome z old new faults risen result) (sym is) outcome
  where
    outcome : IsOutcome (Some x) old new faults risen result
    outcome = record {
      given = λ t told. gives x t.files result (came.given t told);
      usage = (λ e. absurd (no_usage result came.refused e), λ e. absurd (no_command x e));
      refusal = refuses result came.refused;
      asked = came.asked;
      counted = came.counted;
      counts = came.counts;
    }

-- those that are none are refused; and memory may run out
pub words_refused : (c : Option Command) (told : Option Telling) (faults : ℕ) (fault : WordsFault)
    → (fault ≡ words.Usage → c ≡ None)
    → IsOutcome c told told faults faults (Err (plain (status_by fault)))
words_refused c told faults words.Usage none =
    subst (λ (z : Option Command). IsOutcome z told told faults faults (Err (plain statuses.Usage))) (sym (none refl))
    outcome
  where
    outcome : IsOutcome None told told faults faults (Err (plain statuses.Usage))
    outcome =
        record {
          given = λ t is. tt;
          usage = (λ e. refl, λ e. inl refl);
          refusal = tt;
          asked = refl;
          counted = λ f e. cc;
          counts = omega arith;
        }
words_refused c told faults words.OutOfMemory none = record {
  given = λ t is. free c t.files;
  usage = (λ e. absurd (memory_is_not e), λ e. inr refl);
  refusal = tt;
  asked = asks c;
  counted = λ f e. cc;
  counts = omega arith;
}
  where
    memory_is_not : statuses.OutOfMemory ≡ statuses.Usage → ⊥
    memory_is_not e = cc

    free : (z : Option Command) (files : Files) → RefusesWords z files statuses.OutOfMemory (message_text None)
    free None files = tt
    free (Some x) files = inl refl

    asks : (z : Option Command) → AsksFor z statuses.OutOfMemory told told
    asks None = refl
    asks (Some x) = asks_no_more (steps_of x) told
