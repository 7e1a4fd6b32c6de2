-- Passes lead to one place.
use Rattle.std.proofs.Common.{Option, None, Some, ◌≡◌, ℕ, ℤ, List, [], ◌∷◌, ◌++◌, refl, sym, ap, ◌∙◌, subst, Bool}
use Rattle.std.proofs.Common.{arith, All, IfNone}
use Rattle.lam_geom.specs.declared.boxes.Axis.{Axis}
use Rattle.rule_table.specs.declared.technology.Tech.{Tech}
use Rattle.cons_graph.specs.Solutions.{value_of}
use Rattle.liao_wong.specs.Answers.{IsWithinLimit}
use Rattle.sym_items.specs.declared.items.Coords.{Coords}
use Rattle.expand.specs.{declared.master.Master.Master, Laws.IsLawful}
use Rattle.plan_model.specs.declared.plan.Plan.{Plan}
use Rattle.pitch_join.specs.{Masters.ArePlanned, Joined.{system_variables, full_system}}
use Rattle.pass_run.specs.declared.passes.PassFault.{PassFault, TheVariants.{TooManyEdges, Unsatisfiable, OutOfMemory}}
use Rattle.pass_run.specs.{declared.{pass.Made.Made, step.Step.Step}, Laid.AreLaidOut, Layouts.{starts_of, moved_by}}
use Rattle.pass_run.specs.{Layouts.{layouts_after, with_values}, Least.{AreLeastValues, LeadTo, LeadNowhere}}
use Rattle.pass_run.specs.{Least.{StaySettled, LeadToOnePlace}, PassFaults.{IsSolvable, RefusesPasses, AreSolvable}}
use Rattle.pass_run.specs.{PassFaults.{HasManyEdges, IsFirstUnsolvable, IsUnsatisfiable}, Passes.IsLeastPass}
use Rattle.pass_run.specs.{Passes.{IsRecorded, ArePasses, axes_of}, OnePass.IsPassMade}
use Rattle.pass_run.proofs.{Determined.one_least, Pruning.solutions_kept, Settled.{SolvesPass, boxes_of, settles}}
use Rattle.round_log.proofs.Least.{positive_cycle_excludes}

-- ---- passes that have values

module _ (tech : Tech) (plan : Plan) (masters : List Master) where
  -- a pass that is made has values, and its own are least
  pub made_least : (before : List Coords) (step : Step) → IsLeastPass tech plan masters before step
      → IsRecorded tech plan masters before step → AreLeastValues tech plan masters before step.axis step.x
  made_least before step least recorded = record {
    solvable = record {
      few = let few = recorded.few in let e = recorded.edges in omega (arith, few, e);
      acyclic = λ cycle. positive_cycle_excludes _ cycle.0 (value_of step.x) cycle.1 least.least.solves;
    };
    one_each = least.one_each;
    least = least.least;
  }

  pub passes_solvable : (before : List Coords) (steps : List Step) → ArePasses tech plan masters before steps
      → AreSolvable tech plan masters before steps
  passes_solvable before [] made = tt
  passes_solvable before (s ∷ steps) made =
      let rest = passes_solvable (moved_by masters before s) steps made.2 in
      ((made_least before s made.0 made.1).solvable, rest)

-- what refuses some passes names the first of them that has no values
module _ {tech : Tech} {plan : Plan} {masters : List Master} {axes : List Axis} {p : ℕ} where
  abbrev pub many_first : HasManyEdges tech plan masters axes p → IsFirstUnsolvable tech plan masters axes p
  many_first r = record {
    axis = r.axis;
    done = r.done;
    comes = r.comes;
    before = passes_solvable tech plan masters (starts_of tech masters) r.done r.comes.made;
    not_solvable = λ s. let few = s.few in let many = r.many in omega (arith, many, few);
  }

  abbrev pub cycle_first : {t : List ℕ} → IsUnsatisfiable tech plan masters axes p t
      → IsFirstUnsolvable tech plan masters axes p
  cycle_first r = record {
    axis = r.axis;
    done = r.done;
    comes = r.comes;
    before = passes_solvable tech plan masters (starts_of tech masters) r.done r.comes.made;
    not_solvable = λ s. s.acyclic r.cyclic.cyclic;
  }

-- ---- the place to which passes lead

module _ (tech : Tech) (plan : Plan) (masters : List Master) where
  pub passes_lead : (before : List Coords) (steps : List Step) → ArePasses tech plan masters before steps
      → LeadTo tech plan masters (axes_of steps) before (layouts_after masters before steps)
  passes_lead before [] made = refl
  passes_lead before (s ∷ steps) made =
      let rest = passes_lead (moved_by masters before s) steps made.2 in
      (s.x, made_least tech plan masters before s made.0 made.1, rest)

  -- the least values of an axis are one list
  one_list : (before : List Coords) (axis : Axis) (x y : List ℤ) → AreLeastValues tech plan masters before axis x
      → AreLeastValues tech plan masters before axis y → x ≡ y
  one_list before axis x y a b =
      one_least (system_variables axis masters) (full_system axis tech plan masters before) x y a.one_each b.one_each
      a.least b.least

  one_place : (axes : List Axis) (before a b : List Coords) → LeadTo tech plan masters axes before a
      → LeadTo tech plan masters axes before b → a ≡ b
  one_place [] before a b to_a to_b = to_a ∙ sym to_b
  one_place (axis ∷ axes) before a b to_a to_b =
      let L : List ℤ → Type 0 = λ x. LeadTo tech plan masters axes (with_values axis masters before x) b in
      one_place axes (with_values axis masters before to_a.0) a b to_a.2
      (subst L (one_list before axis to_b.0 to_a.0 to_b.1 to_a.1) to_b.2)

  -- a pass after some that are made has values where passes on their axes, its own, and some more lead to a place
  next_solvable : (before after : List Coords) (done : List Step) (axis : Axis) (later : List Axis)
      → ArePasses tech plan masters before done → LeadTo tech plan masters (axes_of done ++ axis ∷ later) before after
      → IsSolvable tech plan masters (layouts_after masters before done) axis
  next_solvable before after [] axis later made lead = lead.1.solvable
  next_solvable before after (s ∷ done) axis later made lead =
      let L : List ℤ → Type 0 = λ x. LeadTo tech plan masters (axes_of done ++ axis ∷ later)
      (with_values s.axis masters before x) after in
      let x : lead.0 ≡ s.x = one_list before s.axis lead.0 s.x lead.1
      (made_least tech plan masters before s made.0 made.1) in
      next_solvable (moved_by masters before s) after done axis later made.2 (subst L x lead.2)

  -- so where they lead to a place each of them has values, and they are not refused
  led_solvable : (axes : List Axis) (p : ℕ) (after : List Coords) → IsFirstUnsolvable tech plan masters axes p
      → LeadTo tech plan masters axes (starts_of tech masters) after → ⊥
  led_solvable axes p after r lead =
      let start : List Coords = starts_of tech masters in
      let L : List Axis → Type 0 = λ zs. LeadTo tech plan masters zs start after in
      r.not_solvable (next_solvable start after r.done r.axis r.comes.later r.comes.made
      (subst L r.comes.axes_are lead))

  pub not_refused : (axes : List Axis) (after : List Coords) (fault : PassFault)
      → LeadTo tech plan masters axes (starts_of tech masters) after
      → RefusesPasses tech plan masters axes fault → fault ≡ OutOfMemory
  not_refused axes after OutOfMemory lead r = refl
  not_refused axes after (TooManyEdges p) lead r = absurd (led_solvable axes p after (many_first r) lead)
  not_refused axes after (Unsatisfiable p t) lead r = absurd (led_solvable axes p after (cycle_first r) lead)

  pub lead_to_one_place : LeadToOnePlace tech plan masters
  lead_to_one_place = record { steps = passes_lead; one = one_place; not_refused = not_refused }

-- ---- one pass and those after it

-- the layouts with least values within 2^55 of 0 are settled, as these solve the list
pub stay_settled : {axis : Axis} {tech : Tech} {plan : Plan} {masters : List Master} {before : List Coords}
    {x : List ℤ} (after : List Coords)
    → ArePlanned tech plan masters → All (IsLawful tech) masters → AreLaidOut tech masters before
    → AreLeastValues tech plan masters before axis x → All IsWithinLimit x → after ≡ with_values axis masters before x
    → StaySettled tech plan masters before axis after
stay_settled {axis} {tech} {plan} {masters} {before} {x} after planned lawful laid least small is =
    let same = solutions_kept tech plan masters lawful axis before (boxes_of tech masters before laid) (value_of x) in
    let values : SolvesPass axis tech plan masters before x = record
    { counted = least.one_each; small = small; solves = same.1 least.least.solves } in
    rw is (settles planned lawful laid values)

-- The layouts are those with the least values of an axis, and settled.
pub record AreLeastOn (tech : Tech) (plan : Plan) (masters : List Master) (axis : Axis)
    (before after : List Coords) : Type 0 where
  pub x : List ℤ
  pub least : AreLeastValues tech plan masters before axis x
  pub is : after ≡ with_values axis masters before x
  pub stays : StaySettled tech plan masters before axis after

pub made_on : {tech : Tech} {plan : Plan} {masters : List Master} {before : List Coords} {pass : ℕ} {told : Bool}
    {made : Made} (axis : Axis)
    → made.step.axis ≡ axis → IsPassMade tech plan masters before pass told made
    → AreLeastOn tech plan masters axis before made.layouts.items
made_on {tech} {plan} {masters} {before} {pass} {told} {made} axis on is =
    let L : Axis → Type 0 = λ a. AreLeastOn tech plan masters a before made.layouts.items in
    subst L on (record {
      x = made.step.x;
      least = made_least tech plan masters before made.step is.least is.recorded;
      is = is.layouts;
      stays = rw is.layouts is.stays;
    })

module _ {tech : Tech} {plan : Plan} {masters : List Master} {axis : Axis} {before next : List Coords}
    (first : AreLeastOn tech plan masters axis before next) (later : List Axis) where
  -- passes lead where those after the first lead from its layouts, and nowhere where those do
  pub lead_first : (after : List Coords) → LeadTo tech plan masters later next after
      → LeadTo tech plan masters (axis ∷ later) before after
  lead_first after lead = (first.x, first.least, rw first.is at lead)

  pub nowhere_first : LeadNowhere tech plan masters later next → LeadNowhere tech plan masters (axis ∷ later) before
  nowhere_first none = λ after lead.
      let L : List Coords → Type 0 = λ c. LeadTo tech plan masters later c after in
      let same : lead.0 ≡ first.x = one_list tech plan masters before axis lead.0 first.x lead.1 first.least in
      none after (subst L (ap (with_values axis masters before) same ∙ sym first.is) lead.2)

pub none_then : {X : Type 0} (o : Option X) {P Q : Type 0} → IfNone o P → (P → Q) → IfNone o Q
none_then None holds then = then holds
none_then (Some x) holds then = holds
