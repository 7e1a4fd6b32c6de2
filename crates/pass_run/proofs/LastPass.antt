-- The last pass on an axis, by its number, and what is known of it.
use Rattle.std.proofs.Common.{◌≡◌, ℕ, zero, suc, ◌+◌, ◌<◌, ◌≤◌, List, [], ◌∷◌, length, get_or, refl, sym, ◌∙◌, subst}
use Rattle.std.{proofs.Common.arith, specs.Prelude.Contains}
use Rattle.lam_geom.specs.declared.boxes.Axis.{Axis}
use Rattle.rule_table.specs.declared.technology.Tech.{Tech}
use Rattle.sym_items.specs.declared.items.Coords.{Coords}
use Rattle.expand.specs.declared.master.Master.{Master}
use Rattle.plan_model.specs.declared.plan.Plan.{Plan}
use Rattle.pass_run.specs.{declared.step.Step.Step, Layouts.moved_by, Passes.{IsLeastPass, ArePasses, axes_of}}
use Rattle.pass_run.specs.{Slack.{IsLastOn, here, later, step_at}, Theorems.{HasCriticalPath, AreSound}}
use Rattle.pass_run.proofs.Chain.{axes_counted}

-- ---- the greatest number on an axis

-- where one of the first passes is on the axis, this is the last of them that is
abbrev pub IsLatest : List Step → Axis → ℕ → ℕ → Type 0
IsLatest steps axis n last = (j : ℕ) → j < n → (step_at steps j).axis ≡ axis
    → (j ≤ last) × (last < n) × ((step_at steps last).axis ≡ axis)

-- ---- the last pass is that of this number

axis_there : (steps : List Step) (i : ℕ) (d : Axis) → i < length steps
    → get_or (axes_of steps) i d ≡ (step_at steps i).axis
axis_there [] i d lt = absurd (omega (arith, lt))
axis_there (s ∷ steps) zero d lt = refl
axis_there (s ∷ steps) (suc i) d lt = axis_there steps i d (omega (arith, lt))

-- a pass is on the axis, by its number
pub on_some : (steps : List Step) (axis : Axis) → Contains (axes_of steps) axis
    → (j : ℕ) × (j < length steps) × ((step_at steps j).axis ≡ axis)
on_some steps axis among =
    let counted = axes_counted steps in
    let under = among.1 in
    let lt : among.0 < length steps = omega (arith, counted, under) in
    (among.0, lt, sym (axis_there steps among.0 axis lt) ∙ among.2)

last_there : (masters : List Master) (axis : Axis) (before : List Coords) (steps : List Step) (k : ℕ)
    → k < length steps → (step_at steps k).axis ≡ axis
    → ((j : ℕ) → k < j → j < length steps → (step_at steps j).axis ≡ axis → ⊥)
    → (at_it : List Coords) × IsLastOn masters axis before steps (suc k) at_it (step_at steps k)
last_there masters axis before [] k lt on none = absurd (omega (arith, lt))
last_there masters axis before (s ∷ steps) zero lt on none = (
  before,
  here before s steps on
      (λ comes. let some = on_some steps axis comes in let under = some.1 in none (suc some.0) (omega arith)
      (omega (arith, under)) some.2),
)
last_there masters axis before (s ∷ steps) (suc k) lt on none =
    let rest = last_there masters axis (moved_by masters before s) steps k (omega (arith, lt)) on
    (λ j from under. none (suc j) (omega (arith, from)) (omega (arith, under))) in
    (rest.0, later before s steps (suc k) rest.0 (step_at steps k) rest.1)

-- the last of all passes on an axis that some are on
pub latest_is_last : (masters : List Master) (axis : Axis) (starts : List Coords) (steps : List Step) (n last : ℕ)
    → Contains (axes_of steps) axis → n ≡ length steps → IsLatest steps axis n last
    → (before : List Coords) × IsLastOn masters axis starts steps (last + 1) before (step_at steps last)
latest_is_last masters axis starts steps n last among all latest =
    let some = on_some steps axis among in
    let within = some.1 in
    let h = latest some.0 (omega (arith, within, all)) some.2 in
    let under = h.1 in
    let r = last_there masters axis starts steps last (omega (arith, under, all)) h.2
    (λ j from before on. let over = (latest j (omega (arith, before, all)) on).0 in omega (arith, from, over)) in
    let e : suc last ≡ last + 1 = omega arith in
    let N : ℕ → Type 0 = λ n. IsLastOn masters axis starts steps n r.0 (step_at steps last) in
    (r.0, subst N e r.1)

pub latest_within : (steps : List Step) (axis : Axis) (n last : ℕ) → Contains (axes_of steps) axis → n ≡ length steps
    → IsLatest steps axis n last → last < length steps
latest_within steps axis n last among all latest =
    let some = on_some steps axis among in
    let within = some.1 in
    let under = (latest some.0 (omega (arith, within, all)) some.2).1 in
    omega (arith, under, all)

-- ---- what is known of it

pub last_on_axis : (masters : List Master) (axis : Axis) (start : List Coords) (steps : List Step) (number : ℕ)
    (before : List Coords) (step : Step)
    → IsLastOn masters axis start steps number before step → step.axis ≡ axis
last_on_axis masters axis start steps number before step (here _ _ _ on _) = on
last_on_axis masters axis start steps number before step (later _ first more n _ _ last) =
    last_on_axis masters axis (moved_by masters start first) more n before step last

pub last_least : (tech : Tech) (plan : Plan) (masters : List Master) (axis : Axis) (start : List Coords)
    (steps : List Step) (number : ℕ) (before : List Coords) (step : Step)
    → IsLastOn masters axis start steps number before step → ArePasses tech plan masters start steps
    → IsLeastPass tech plan masters before step
last_least tech plan masters axis start steps number before step (here _ _ _ _ _) made = made.0
last_least tech plan masters axis start steps number before step (later _ first more n _ _ last) made =
    last_least tech plan masters axis (moved_by masters start first) more n before step last made.2

pub last_paths : (tech : Tech) (plan : Plan) (masters : List Master) (axis : Axis) (had : List Axis)
    (start : List Coords) (steps : List Step) (number : ℕ) (before : List Coords) (step : Step)
    → IsLastOn masters axis start steps number before step → AreSound tech plan masters had start steps → (m : ℕ)
    → m < length masters → HasCriticalPath tech plan masters before step m
last_paths tech plan masters axis had start steps number before step (here _ _ _ _ _) sound = sound.0.paths
last_paths tech plan masters axis had start steps number before step (later _ first more n _ _ last) sound =
    last_paths tech plan masters axis (first.axis ∷ had) (moved_by masters start first) more n before step last sound.1
