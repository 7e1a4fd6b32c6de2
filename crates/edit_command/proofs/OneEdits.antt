-- What `edit` writes is determined.
use Rattle.std.proofs.Common.{◌≡◌, ℕ, suc, ◌<◌, ◌≤◌, List, [], ◌∷◌, ◌++◌, sym, ap, ◌∙◌, subst, arith}
use Rattle.lam_geom.specs.declared.boxes.Axis.{Axis}
use Rattle.lam_io.specs.Io.{Bytes}
use Rattle.rule_table.specs.declared.technology.Tech.{Tech}
use Rattle.stick_text.specs.declared.design.Design.{Design as Sticks}
use Rattle.edit_lines.specs.declared.script.EditLine.{EditLine}
use Rattle.limit_edits.proofs.Designs.{edited_is_determined}
use Rattle.expand.specs.declared.master.Master.{Master}
use Rattle.plan_model.specs.declared.plan.Plan.{Plan}
use Rattle.sym_items.specs.declared.items.Coords.{Coords}
use Rattle.command_files.specs.declared.status.Status.{Status}
use Rattle.design_layouts.{specs.Designs.RefusesDesign, proofs.OneLayout.{refused_decided, design_refused_once}}
use Rattle.edit_command.specs.Edits.{AreLeastLayouts, IsAnswered, done, too_long, IsStep, AreSteps, EditsTo}
use Rattle.edit_command.specs.Edits.{code_word, done_word, step_line}
use Rattle.edit_command.proofs.LeastLayouts.{one_layouts, least_not_refused}
use Rattle.design_masters.{proofs.Determined.one_masters, specs.Plans.AreMastersOf}
use Rattle.command_files.specs.declared.status.Status.TheVariants as statuses
use Rattle.edit_command.specs.Edits as edits

-- ---- one word

long_and_short : (n most : ℕ) → n ≤ most → most < n → ⊥
long_and_short n most short long = omega (arith, short, long)

one_done : (tech : Tech) (axes : List Axis) (design : Sticks) (p q : Plan) (ms ns : List Master) (c d : List Coords)
    → AreMastersOf tech design p ms → AreMastersOf tech design q ns
    → AreLeastLayouts tech p ms axes c → AreLeastLayouts tech q ns axes d → done_word ms c ≡ done_word ns d
one_done tech axes design p q ms ns c d are also least also_least =
    let masters = one_masters tech design p q ms ns are also in
    let L : Plan → List Master → Type 0 = λ z zs. AreLeastLayouts tech z zs axes d in
    let in_masters = subst (λ zs. L q zs) (sym masters.1) also_least in
    let in_plan = subst (λ z. L z ms) (sym masters.0) in_masters in
    ap (λ (cs : List Coords). done_word ms cs) (one_layouts tech p ms axes c d least in_plan)
    ∙ ap (λ (zs : List Master). done_word zs d) masters.1

one_code : (tech : Tech) (axes : List Axis) (design : Sticks) (e f : Status) (a b : Bytes)
    → RefusesDesign tech axes design e a → RefusesDesign tech axes design f b → (e ≡ statuses.OutOfMemory → ⊥)
    → (f ≡ statuses.OutOfMemory → ⊥) → e ≡ f
one_code tech axes design e f a b h k has also =
    (design_refused_once tech axes design e f a b h k (refused_decided tech axes design e a h has)
    (refused_decided tech axes design f b k also)).0

pub one_word : (tech : Tech) (axes : List Axis) (design : Sticks) (word told : Bytes)
    → IsAnswered tech axes design word → IsAnswered tech axes design told → word ≡ told
one_word tech axes design word told (done short p ms are c least e) (done also q ns is d fits f) = e
    ∙ (one_done tech axes design p q ms ns c d are is least fits ∙ sym f)
one_word tech axes design word told (done short p ms are c least e) (too_long long f) =
    absurd (long_and_short _ _ short long)
one_word tech axes design word told (done short p ms are c least e) (edits.no_masks also status message why has f) =
    absurd (least_not_refused tech axes design status message why has p ms c are least)
one_word tech axes design word told (too_long long e) (done short p ms are c least f) =
    absurd (long_and_short _ _ short long)
one_word tech axes design word told (too_long long e) (too_long also f) = e ∙ sym f
one_word tech axes design word told (too_long long e) (edits.no_masks short status message why has f) =
    absurd (long_and_short _ _ short long)
one_word tech axes design word told (edits.no_masks short status message why has e) (done also p ms are c least f) =
    absurd (least_not_refused tech axes design status message why has p ms c are least)
one_word tech axes design word told (edits.no_masks short status message why has e) (too_long long f) =
    absurd (long_and_short _ _ short long)
one_word tech axes design word told (edits.no_masks short status message why has e)
    (edits.no_masks also other says reason had f) =
    e ∙ (ap (λ (z : Status). code_word z) (one_code tech axes design status other message says why reason has had)
    ∙ sym f)

-- ---- one step

one_step : (tech : Tech) (axes : List Axis) (numbers : List ℕ) (line : EditLine) (design new other : Sticks)
    (word told : Bytes) → IsStep tech axes numbers line design new word
    → IsStep tech axes numbers line design other told → (new ≡ other) × (word ≡ told)
one_step tech axes numbers line design new other word told (edits.changed a is) (edits.changed b are) =
    let made : new ≡ other = edited_is_determined design numbers line new other a.edited b.edited in
    (made, one_word tech axes new word told is (subst (λ (z : Sticks). IsAnswered tech axes z told) (sym made) are))
one_step tech axes numbers line design new other word told (edits.changed a is) (edits.refused none d f) =
    absurd (none new a)
one_step tech axes numbers line design new other word told (edits.refused none d e) (edits.changed b are) =
    absurd (none other b)
one_step tech axes numbers line design new other word told (edits.refused none d e) (edits.refused also g f) =
    (d ∙ sym g, e ∙ sym f)

-- ---- all steps

one_steps : (tech : Tech) (axes : List Axis) (numbers : List ℕ) (i : ℕ) (lines : List EditLine)
    (design last other : Sticks) (output told : Bytes) → AreSteps tech axes numbers i lines design last output
    → AreSteps tech axes numbers i lines design other told → output ≡ told
one_steps tech axes numbers i [] design last other output told a b = a.1 ∙ sym b.1
one_steps tech axes numbers i (line ∷ lines) design last other output told (new, word, rest, a, more, e)
    (next, said, after, b, others, f) =
    let same = one_step tech axes numbers line design new next word said a b in
    let then = one_steps tech axes numbers (suc i) lines new last other rest after more
    (subst (λ (z : Sticks). AreSteps tech axes numbers (suc i) lines z other after) (sym same.0) others) in
    e ∙ (ap (λ (z : Bytes). step_line i z ++ rest) same.1 ∙ (ap (λ (z : Bytes). step_line i said ++ z) then ∙ sym f))

pub one_session : (tech : Tech) (axes : List Axis) (numbers : List ℕ) (design : Sticks) (lines : List EditLine)
    (o p : Bytes) → EditsTo tech axes numbers design lines o
    → EditsTo tech axes numbers design lines p → o ≡ p
one_session tech axes numbers design lines o p a b =
    one_steps tech axes numbers 0 lines design a.last b.last o p a.steps b.steps
