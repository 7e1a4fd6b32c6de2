-- The passes so far, at the start and with one more, and what they give in the end.
use Rattle.std.proofs.Common.{◌≡◌, ℕ, suc, ◌+◌, ◌<◌, ℤ, Bool, true, false, List, [], ◌∷◌, ◌++◌, length, take, drop}
use Rattle.std.proofs.Common.{get_or, refl, sym, ap, ◌∙◌, subst, arith, append-nil, ◌↔◌, IsTrue, Contains, All}
use Rattle.std.proofs.lemmas.{Bool.false≢true, Grind.flat_map-append, List.{get_or-map, length-map, map-append}}
use Rattle.lam_geom.specs.declared.boxes.Axis.{Axis}
use Rattle.rule_table.specs.declared.technology.Tech.{Tech}
use Rattle.sym_items.specs.{declared.items.Coords.Coords, Layouts.{layout_at, no_layout}}
use Rattle.expand.specs.{declared.master.Master.Master, Masters.IsMaster}
use Rattle.plan_model.specs.declared.plan.Plan.{Plan}
use Rattle.coarse_grid.proofs.StartLaid.{start_laid}
use Rattle.pass_run.specs.declared.pass.{Made.Made, Stop.{Stop, TheVariants.{TooManyEdges, Cycle, OutOfMemory}}}
use Rattle.pass_run.specs.declared.{step.Step.Step, passes.{PassFault.PassFault, Passes.Passes, SoFar.SoFar}}
use Rattle.pass_run.specs.{Layouts.{start_of_master, starts_of, moved_by, layouts_after}, Passes.{ArePasses, axes_of}}
use Rattle.pass_run.specs.{PassesOn.ArePassesOn, Report.{pass_text, report_from, report_of}, Theorems.AreSound}
use Rattle.pass_run.specs.{PassFaults.{ComesTo, IsCyclicOver, IsUnsatisfiable, RefusesPasses}, Laid.StartsClean}
use Rattle.pass_run.specs.{Laid.{IsLaidOut, AreLaidOut, AreSettled}, Going.{AreMade, IsGoing}}
use Rattle.pass_run.specs.Going.{IsCheckedOrExtractedIfLast, steps_of, text_of, greatest_values_of}
use Rattle.pass_run.specs.{OnePass.{EndsPasses, IsFirstOn, IsPassMade, StopsPass}, Told.IsTightMost}
use Rattle.pass_run.specs.Told.{IsPassTold, AreTold}
use Rattle.pass_run.proofs.{Chain.{none_settled, settled_first, axes_split}, Leading.passes_solvable, Settled.placed_of}
use Rattle.pitch_join.specs.{Joined.pruned_system, Masters.{master_at, no_master}}

-- the start layouts are layouts of the masters
pub starts_laid : (tech : Tech) (masters : List Master) → All (IsMaster tech) masters → All (StartsClean tech) masters
    → AreLaidOut tech masters (starts_of tech masters)
starts_laid tech masters each clean = record {
  counted = length-map masters (start_of_master tech);
  each = λ m lt.
      let master : Master = master_at masters m in
      let at : layout_at (starts_of tech masters) m ≡ start_of_master tech master =
      get_or-map (start_of_master tech) masters m no_master no_layout lt in
      let L : Coords → Type 0 = IsLaidOut tech master in
      subst L (sym at)
      (record { of_master = start_laid tech master (each m no_master lt); clean = clean m no_master lt });
}

-- ---- passes that are made one after another

module _ (tech : Tech) (plan : Plan) (masters : List Master) (with_most : Bool) (coming : List Axis) where
  abbrev over : ℕ → List Coords → List Made → Type 0
  over = AreMade tech plan masters with_most coming

  abbrev next : List Coords → Made → List Coords
  next before m = moved_by masters before m.step

  passes_made : (pass : ℕ) (before : List Coords) (ms : List Made) → over pass before ms
      → ArePasses tech plan masters before (steps_of ms)
  passes_made pass before [] all = tt
  passes_made pass before (m ∷ ms) all = (all.2.least, all.2.recorded, passes_made (suc pass) (next before m) ms all.3)

  sound_made : (had : List Axis) (pass : ℕ) (before : List Coords) (ms : List Made)
      → AreSettled tech plan masters had before → over pass before ms
      → AreSound tech plan masters had before (steps_of ms)
  sound_made had pass before [] settled all = tt
  sound_made had pass before (m ∷ ms) settled all =
      let rest = all.2.stays.settled had settled in
      (all.2.sound had settled, sound_made (m.step.axis ∷ had) (suc pass) (next before m) ms rest all.3)

  laid_made : (pass : ℕ) (before : List Coords) (ms : List Made) → AreLaidOut tech masters before → over pass before ms
      → AreLaidOut tech masters (layouts_after masters before (steps_of ms))
  laid_made pass before [] laid all = laid
  laid_made pass before (m ∷ ms) laid all = laid_made (suc pass) (next before m) ms all.2.stays.laid all.3

  settled_made : (had : List Axis) (pass : ℕ) (before : List Coords) (ms : List Made)
      → AreSettled tech plan masters had before → over pass before ms
      → AreSettled tech plan masters (axes_of (steps_of ms) ++ had) (layouts_after masters before (steps_of ms))
  settled_made had pass before [] settled all = settled
  settled_made had pass before (m ∷ ms) settled all =
      settled_first tech plan masters m.step.axis (axes_of (steps_of ms)) had
      (layouts_after masters before (steps_of (m ∷ ms)))
      (settled_made (m.step.axis ∷ had) (suc pass) (next before m) ms (all.2.stays.settled had settled) all.3)

  report_made : (pass : ℕ) (before : List Coords) (ms : List Made) → over pass before ms
      → text_of ms ≡ report_from tech plan masters pass before (steps_of ms)
  report_made pass before [] all = refl
  report_made pass before (m ∷ ms) all =
      let own : List ℕ = pass_text masters (pruned_system m.step.axis tech plan masters before) pass m.step in
      ap (λ ns. ns ++ text_of ms) all.2.text ∙ ap (λ ns. own ++ ns) (report_made (suc pass) (next before m) ms all.3)

  told_one : (before : List Coords) (step : Step) (after : List Axis) (told : Bool) (values : List ℤ)
      → IsTrue told ↔ (Contains after step.axis → ⊥) → (IsTrue told → IsTightMost tech plan masters before step values)
      → (told ≡ false → values ≡ []) → IsPassTold tech plan masters before step after values
  told_one before step after true values is most none =
      record { last = λ alone. most refl; others = λ comes. absurd (is.0 refl comes) }
  told_one before step after false values is most none =
      record { last = λ alone. absurd (false≢true (is.1 alone)); others = λ comes. none refl }

  told_made : (pass : ℕ) (before : List Coords) (ms : List Made) → IsTrue with_most → over pass before ms
      → AreTold tech plan masters coming before (steps_of ms) (greatest_values_of ms)
  told_made pass before [] asked all = tt
  told_made pass before (m ∷ ms) asked all = (
    told_one before m.step (axes_of (steps_of ms) ++ coming) all.0 m.most (all.1 asked) all.2.most all.2.none,
    told_made (suc pass) (next before m) ms asked all.3,
  )

  -- one pass more
  layouts_more : (before : List Coords) (ms : List Made) (m : Made)
      → next (layouts_after masters before (steps_of ms)) m ≡ layouts_after masters before (steps_of (ms ++ m ∷ []))
  layouts_more before [] m = refl
  layouts_more before (first ∷ ms) m = layouts_more (next before first) ms m

  coming_more : (ms : List Made) (m : Made)
      → axes_of (steps_of ms) ++ (m.step.axis ∷ coming) ≡ axes_of (steps_of (ms ++ m ∷ [])) ++ coming
  coming_more [] m = refl
  coming_more (first ∷ ms) m = ap (λ (axes : List Axis). first.step.axis ∷ axes) (coming_more ms m)

  made_more : (pass number : ℕ) (before : List Coords) (ms : List Made) (told : Bool) (m : Made)
      → number ≡ pass + length ms → AreMade tech plan masters with_most (m.step.axis ∷ coming) pass before ms
      → IsCheckedOrExtractedIfLast with_most coming m.step.axis told
      → IsPassMade tech plan masters (layouts_after masters before (steps_of ms)) number told m
      → over pass before (ms ++ m ∷ [])
  made_more pass number before [] told m n all is more =
      let same : number ≡ pass = omega arith in
      (told, is, rw same at more, tt)
  made_more pass number before (first ∷ ms) told m n all is more =
      let T : List Axis → Type 0 = λ axes. IsCheckedOrExtractedIfLast with_most axes first.step.axis all.0 in
      let rest = made_more (suc pass) number (next before first) ms told m (omega arith) all.3 is more in
      (all.0, subst T (coming_more ms m) all.1, all.2, rest)

-- ---- the passes so far

pub going_start : (tech : Tech) (plan : Plan) (masters : List Master) (with_most : Bool) (coming : List Axis)
    (s : SoFar) → All (IsMaster tech) masters → All (StartsClean tech) masters
    → s.layouts.items ≡ starts_of tech masters → s.steps.items ≡ [] → s.report.items ≡ [] → s.greatest_values.items ≡ []
    → IsGoing tech plan masters with_most coming s
going_start tech plan masters with_most coming s each clean layouts steps report greatest_values = record {
  laid = starts_laid tech masters each clean;
  mades = [];
  made = tt;
  steps = steps;
  layouts = layouts;
  report = report;
  told = λ asked. greatest_values;
  untold = λ not. greatest_values;
}

pub going_more : {tech : Tech} {plan : Plan} {masters : List Master} {with_most told : Bool} {axis : Axis}
    {coming : List Axis} {s : SoFar} {c : List Coords} {pass : ℕ} {made : Made} (t : SoFar)
    → IsGoing tech plan masters with_most (axis ∷ coming) s → c ≡ s.layouts.items → pass ≡ suc (length s.steps.items)
    → made.step.axis ≡ axis → IsCheckedOrExtractedIfLast with_most coming axis told
    → IsPassMade tech plan masters c pass told made
    → t.layouts.items ≡ made.layouts.items → t.steps.items ≡ s.steps.items ++ made.step ∷ []
    → t.report.items ≡ s.report.items ++ made.text.items
    → (IsTrue with_most → t.greatest_values.items ≡ s.greatest_values.items ++ made.most ∷ [])
    → (with_most ≡ false → t.greatest_values.items ≡ s.greatest_values.items)
    → IsGoing tech plan masters with_most coming t
going_more {tech} {plan} {masters} {with_most} {told} {axis} {coming} {s} {c} {pass} {made} t g at number on is more
    layouts steps report asked_more not_more =
    let start : List Coords = starts_of tech masters in
    let before : c ≡ layouts_after masters start (steps_of g.mades) = at ∙ g.layouts in
    let A : Axis → Type 0 = λ a. AreMade tech plan masters with_most (a ∷ coming) 1 start g.mades in
    let S : Made → Step = λ (z : Made). z.step in
    let counted : length s.steps.items ≡ length g.mades = ap (λ (zs : List Step). length zs) g.steps
    ∙ length-map g.mades S in
    let after = layouts_more tech plan masters with_most coming start g.mades made in
    record {
      laid = g.laid;
      mades = g.mades ++ made ∷ [];
      made = made_more tech plan masters with_most coming 1 pass start g.mades told made (omega arith)
          (subst A (sym on) g.made) (rw (← on) at is) (rw before at more);
      steps = rw (steps, g.steps, map-append);
      layouts = layouts ∙ (more.layouts ∙ (ap (λ ls. moved_by masters ls made.step) before ∙ after));
      report = rw (report, g.report, flat_map-append, append-nil made.text.items);
      told = λ asked. rw (asked_more asked, g.told asked, map-append);
      untold = λ not. not_more not ∙ g.untold not;
    }

module _ {tech : Tech} {plan : Plan} {masters : List Master} {with_most : Bool} {coming : List Axis} {s : SoFar}
    (g : IsGoing tech plan masters with_most coming s) where
  abbrev start : List Coords
  start = starts_of tech masters

  going_passes : ArePasses tech plan masters start s.steps.items
  going_passes = rw g.steps (passes_made tech plan masters with_most coming 1 start g.mades g.made)

  going_after : s.layouts.items ≡ layouts_after masters start s.steps.items
  going_after = g.layouts ∙ ap (λ (zs : List Step). layouts_after masters start zs) (sym g.steps)

  going_report : s.report.items ≡ report_of tech plan masters start s.steps.items
  going_report = rw g.steps (g.report ∙ report_made tech plan masters with_most coming 1 start g.mades g.made)

  pub going_laid : AreLaidOut tech masters s.layouts.items
  going_laid = rw g.layouts (laid_made tech plan masters with_most coming 1 start g.mades g.laid g.made)

  going_settled : AreSettled tech plan masters (axes_of s.steps.items) s.layouts.items
  going_settled =
      let none = none_settled tech plan masters start in
      rw (g.steps, g.layouts, ← append-nil (axes_of (steps_of g.mades)))
      (settled_made tech plan masters with_most coming [] 1 start g.mades none g.made)

  comes_next : (pass : ℕ) (axis : Axis) (later : List Axis) → pass ≡ suc (length s.steps.items)
      → ComesTo tech plan masters (axes_of s.steps.items ++ axis ∷ later) pass axis s.steps.items
  comes_next pass axis later number = record { made = going_passes; later = later; axes_are = refl; count = number }

  -- a pass with a positive cycle refuses these axes, whatever comes after it
  pub refused_cyclic : (c : List Coords) (pass : ℕ) (axis : Axis) (later : List Axis) (text report : List ℕ)
      → c ≡ s.layouts.items → pass ≡ suc (length s.steps.items)
      → IsCyclicOver tech plan masters c pass axis text × IsFirstOn tech plan masters c axis
      → report ≡ s.report.items ++ text
      → IsUnsatisfiable tech plan masters (axes_of s.steps.items ++ axis ∷ later) pass report
  refused_cyclic c pass axis later text report at number stops says = record {
    axis = axis;
    done = s.steps.items;
    comes = comes_next pass axis later number;
    first = stops.1 (axes_of s.steps.items) (rw at going_settled);
    text = text;
    cyclic = rw (at ∙ going_after) at stops.0;
    says = says ∙ ap (λ ns. ns ++ text) going_report;
  }

  -- a pass that stops without a cycle refuses them, too
  pub refused_stopped : (c : List Coords) (pass : ℕ) (axis : Axis) (later : List Axis) (stop : Stop) (fault : PassFault)
      → c ≡ s.layouts.items → pass ≡ suc (length s.steps.items) → StopsPass tech plan masters c pass axis stop
      → EndsPasses pass stop fault → RefusesPasses tech plan masters (axes_of s.steps.items ++ axis ∷ later) fault
  refused_stopped c pass axis later TooManyEdges fault at number many ends =
      let comes = comes_next pass axis later number in
      rw ends (record { axis = axis; done = s.steps.items; comes = comes; many = rw (at ∙ going_after) at many })
  refused_stopped c pass axis later (Cycle text) fault at number cyclic ends = absurd ends
  refused_stopped c pass axis later OutOfMemory fault at number free ends = rw ends tt

  -- what they give where they are all that are asked for
  pub passes_given : (axes : List Axis) (p : Passes) → axes_of s.steps.items ≡ axes → p.coords ≡ s.layouts.items
      → p.steps ≡ s.steps.items → p.report ≡ s.report.items → ArePassesOn tech plan masters axes p
  passes_given axes p are coords steps report =
      let none = none_settled tech plan masters start in
      let sound = sound_made tech plan masters with_most coming [] 1 start g.mades none g.made in
      let placed = placed_of tech plan masters s.layouts.items (axes_of s.steps.items) going_laid going_settled in
      record {
        on_axes = rw steps are;
        passes = rw steps going_passes;
        last = rw (coords, steps) going_after;
        report = rw (report, steps) going_report;
        sound_passes = rw (steps, g.steps) sound;
        counted = rw coords going_laid.counted;
        laid = rw coords going_laid;
        placed = rw (coords, ← are) placed;
        met = rw (coords, ← are) going_settled.met;
        solvable = rw steps (passes_solvable tech plan masters start s.steps.items going_passes);
      }

  -- and what they tell
  pub going_told : (p : Passes) → coming ≡ [] → p.steps ≡ s.steps.items → p.greatest_values ≡ s.greatest_values.items
      → IsTrue with_most
      → AreTold tech plan masters [] start p.steps p.greatest_values
  going_told p none steps greatest_values asked =
      let C : List Axis → Type 0 =
      λ axes. AreTold tech plan masters axes start (steps_of g.mades) (greatest_values_of g.mades) in
      let told = told_made tech plan masters with_most coming 1 start g.mades asked g.made in
      rw (steps, g.steps, greatest_values, g.told asked) (subst C none told)

-- what refuses one more pass refuses these
pub refused_there : (tech : Tech) (plan : Plan) (masters : List Master) (axes done : List Axis) (k : ℕ) (d : Axis)
    (fault : PassFault) → k < length axes → done ≡ take k axes
    → RefusesPasses tech plan masters (done ++ get_or axes k d ∷ drop (suc k) axes) fault
    → RefusesPasses tech plan masters axes fault
refused_there tech plan masters axes done k d fault lt are refused =
    let R : List Axis → Type 0 = λ zs. RefusesPasses tech plan masters zs fault in
    subst R (ap (λ zs. zs ++ get_or axes k d ∷ drop (suc k) axes) are ∙ sym (axes_split axes k d lt)) refused
