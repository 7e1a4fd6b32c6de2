-- What the text of an axis is made of: the last pass on it, and the greatest values after this.
use Rattle.std.proofs.Common.{◌≡◌, ℕ, ◌+◌, ◌-◌, ◌<◌, ℤ, List, [], length, get_or, sym, ap, ◌∙◌, subst, arith}
use Rattle.std.{proofs.lemmas.List.get_or_default, specs.List.All}
use Rattle.lam_geom.specs.{declared.boxes.Axis.Axis, Places.IsPlace}
use Rattle.lam_io.specs.Io.{Bytes}
use Rattle.rule_table.specs.declared.technology.Tech.{Tech}
use Rattle.sym_items.specs.declared.items.Coords.{Coords}
use Rattle.expand.specs.declared.master.Master.{Master}
use Rattle.plan_model.specs.declared.plan.Plan.{Plan}
use Rattle.pitch_join.specs.{Masters.ArePlanned, Joined.system_variables}
use Rattle.pass_run.specs.{declared.step.Step.Step, Layouts.starts_of, Slack.{AreGreatestValues, AreTight, IsLastOn}}
use Rattle.pass_run.specs.Slack.{IsMostAfter, IsTightWhereCritical, most_at, step_at}
use Rattle.pass_run.proofs.{LastPass.{last_least, last_on_axis, last_paths}, SlackBounds.{least_places, most_places}}
use Rattle.slack_text.specs.Slack.{axis_slack}
use Rattle.design_commands.specs.Slacks.{HasSlack}
use Rattle.design_layouts.specs.Designs.{ArePlaced}

-- Pass number k, from 0 on, is the last on an axis, and these are its values and the greatest ones.
pub record IsLastWith (tech : Tech) (plan : Plan) (masters : List Master) (steps : List Step) (axis : Axis) (k : ℕ)
    (least most : List ℤ) : Type 0 where
  pub before : List Coords
  pub last : IsLastOn masters axis (starts_of tech masters) steps (k + 1) before (step_at steps k)
  pub least_is : (step_at steps k).x ≡ least
  pub least_each : length least ≡ system_variables axis masters
  pub most_each : length most ≡ system_variables axis masters
  pub least_places : All IsPlace least
  pub most_places : All IsPlace most
  pub is_most : IsMostAfter tech plan masters before (step_at steps k) most
  pub tight : IsTightWhereCritical tech plan masters before (step_at steps k) most

-- what is told of the pass after the first k
most_there : (greatest_values : List (List ℤ)) (k : ℕ) (most d : List ℤ) → most ≡ get_or greatest_values k d
    → k < length greatest_values → most_at greatest_values (k + 1) ≡ most
most_there greatest_values k most d is lt =
    let e : (k + 1) - 1 ≡ k = omega arith in
    ap (λ (i : ℕ). get_or greatest_values i []) e ∙ (get_or_default greatest_values k [] d lt ∙ sym is)

pub last_with : (tech : Tech) (plan : Plan) (masters : List Master) (axes : List Axis) (steps : List Step)
    (greatest_values : List (List ℤ)) (axis : Axis) (k : ℕ) (before : List Coords) (least most : List ℤ)
    → ArePlanned tech plan masters → ArePlaced tech plan masters axes steps
    → AreGreatestValues tech plan masters (starts_of tech masters) steps greatest_values
    → AreTight tech plan masters (starts_of tech masters) steps greatest_values
    → IsLastOn masters axis (starts_of tech masters) steps (k + 1) before (step_at steps k)
    → (step_at steps k).x ≡ least → most_at greatest_values (k + 1) ≡ most
    → IsLastWith tech plan masters steps axis k least most
last_with tech plan masters axes steps greatest_values axis k before least most planned placed told tight last
    least_is most_is =
    let start : List Coords = starts_of tech masters in
    let step : Step = step_at steps k in
    let on : step.axis ≡ axis = last_on_axis masters axis start steps (k + 1) before step last in
    let pass = last_least tech plan masters axis start steps (k + 1) before step last placed.made.passes in
    let paths = last_paths tech plan masters axis [] start steps (k + 1) before step last placed.made.sound in
    let is_most = subst (IsMostAfter tech plan masters before step) most_is (told.last axis (k + 1) before step last) in
    let vars : system_variables step.axis masters ≡ system_variables axis masters =
    ap (λ a. system_variables a masters) on in
    record {
      before = before;
      last = last;
      least_is = least_is;
      least_each = sym (ap (λ (xs : List ℤ). length xs) least_is) ∙ (pass.one_each ∙ vars);
      most_each = is_most.one_each ∙ vars;
      least_places = subst (All IsPlace) least_is (least_places tech plan masters before step planned paths pass);
      most_places = most_places tech plan masters before step most planned paths is_most;
      is_most = is_most;
      tight = subst (IsTightWhereCritical tech plan masters before step) most_is (tight axis (k + 1) before step last);
    }

-- the same of what the code has read
pub read_last : (tech : Tech) (plan : Plan) (masters : List Master) (axes : List Axis) (steps read : List Step)
    (greatest_values told : List (List ℤ)) (axis : Axis) (k : ℕ) (d : Step) (e least most : List ℤ)
    → ArePlanned tech plan masters → ArePlaced tech plan masters axes steps
    → AreGreatestValues tech plan masters (starts_of tech masters) steps greatest_values
    → AreTight tech plan masters (starts_of tech masters) steps greatest_values
    → read ≡ steps → told ≡ greatest_values → k < length read
    → ((ms : List Master) (starts : List Coords) → (before : List Coords)
    × IsLastOn ms axis starts read (k + 1) before (step_at read k))
    → least ≡ (get_or read k d).x → most ≡ get_or told k e → IsLastWith tech plan masters steps axis k least most
read_last tech plan masters axes steps read greatest_values told axis k d e least most planned placed
    are_greatest_values tight steps_are greatest_values_are lt last least_is most_is =
    let start : List Coords = starts_of tech masters in
    let L : List Step → Type 0 = λ ss. (before : List Coords)
    × IsLastOn masters axis start ss (k + 1) before (step_at ss k) in
    let l = subst L steps_are (last masters start) in
    let one_each = are_greatest_values.one_each in
    let steps_counted = ap (λ (ss : List Step). length ss) steps_are in
    let told_counted = ap (λ (ms : List (List ℤ)). length ms) greatest_values_are in
    let values : (step_at steps k).x ≡ least = ap (λ (ss : List Step). (step_at ss k).x) (sym steps_are)
    ∙ (ap (λ (s : Step). s.x) (get_or_default read k _ d lt) ∙ sym least_is) in
    let in_greatest_values : k < length greatest_values = omega (arith, lt, steps_counted, one_each) in
    last_with tech plan masters axes steps greatest_values axis k l.0 least most planned placed are_greatest_values
    tight l.1 values
    (most_there greatest_values k most e (most_is ∙ ap (λ (ms : List (List ℤ)). get_or ms k e) greatest_values_are)
    in_greatest_values)

-- the text of the axis
pub has_slack : (tech : Tech) (plan : Plan) (masters : List Master) (steps : List Step) (axis : Axis) (k : ℕ)
    (least most : List ℤ) (text : Bytes) → IsLastWith tech plan masters steps axis k least most
    → text ≡ axis_slack axis (k + 1) masters least most → HasSlack tech plan masters steps axis text
has_slack tech plan masters steps axis k least most text l written = record {
  number = k + 1;
  before = l.before;
  step = step_at steps k;
  last = l.last;
  most = most;
  is_most = l.is_most;
  tight = l.tight;
  written = written ∙ ap (λ xs. axis_slack axis (k + 1) masters xs most) (sym l.least_is);
}
