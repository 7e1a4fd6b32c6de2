-- The last pass on an axis among some passes, of which there is no other, and what is told of all passes.
use Rattle.std.proofs.Common.{◌≡◌, ℕ, suc, ◌≤◌, List, [], ◌∷◌, ◌⊎◌, inl, inr, refl, ap, arith, zero, ◌-◌, ◌<◌, ℤ}
use Rattle.std.proofs.Common.{length, sym, ◌∙◌, subst, append-nil, Contains, slice_index_or}
use Rattle.std.proofs.lemmas.List.Elements.{All-nil, All-cons, All-contains, Contains-append_right}
use Rattle.std.proofs.lemmas.List.Elements.{Contains-append_cases, Contains-append_left}
use Rattle.lam_geom.specs.declared.boxes.Axis.{Axis}
use Rattle.sym_items.specs.declared.items.Coords.{Coords}
use Rattle.expand.specs.declared.master.Master.{Master}
use Rattle.pass_run.specs.{declared.step.Step.Step, Layouts.moved_by, Passes.axes_of, Slack.{IsLastOn, here, later}}
use Rattle.pass_run.specs.{Slack.{most_at, AreGreatestValues, AreTight}, Told.{IsTightMost, AreTold}}
use Rattle.pass_run.proofs.Settled.{same_axis}
use Rattle.rule_table.specs.declared.technology.Tech.{Tech}
use Rattle.plan_model.specs.declared.plan.Plan.{Plan}

only_one : (a axis : Axis) → Contains (a ∷ []) axis → a ≡ axis
only_one a axis h = let P : Axis → Type 0 =
    λ z. a ≡ z in All-contains P (a ∷ []) axis (All-cons P a [] refl (All-nil P)) h

-- an axis comes among some, or does not
pub comes_or_not : (axes : List Axis) (axis : Axis) → Contains axes axis ⊎ (Contains axes axis → ⊥)
comes_or_not [] axis = inr (λ h. let lt = h.1 in omega arith)
comes_or_not (a ∷ axes) axis =
    elim (same_axis a axis) [
      | inl same ↦ inl (0, omega arith, same)
      | inr other ↦
          elim (comes_or_not axes axis) [
            | inl comes ↦ inl (Contains-append_right (a ∷ []) axes axis comes)
            | inr not ↦
                inr (λ h. elim (Contains-append_cases (a ∷ []) axes axis h)
                [ inl first ↦ other (only_one a axis first) | inr after ↦ not after ])
          ]
    ]

pub last_counted : (masters : List Master) (axis : Axis) (start : List Coords) (steps : List Step) (number : ℕ)
    (before : List Coords) (step : Step)
    → IsLastOn masters axis start steps number before step → 1 ≤ number
last_counted masters axis start steps number before step (here _ _ _ _ _) = omega arith
last_counted masters axis start steps number before step (later _ _ _ _ _ _ _) = omega arith

pub last_among : (masters : List Master) (axis : Axis) (start : List Coords) (steps : List Step) (number : ℕ)
    (before : List Coords) (step : Step)
    → IsLastOn masters axis start steps number before step → Contains (axes_of steps) axis
last_among masters axis start steps number before step (here _ _ _ on _) = (0, omega arith, on)
last_among masters axis start steps number before step (later _ first more n _ _ last) =
    Contains-append_right (first.axis ∷ []) (axes_of more) axis
    (last_among masters axis (moved_by masters start first) more n before step last)

-- there is one last pass on an axis at most
pub last_once : (masters : List Master) (axis : Axis) (start : List Coords) (steps : List Step) (number other : ℕ)
    (before between : List Coords) (step again : Step)
    → IsLastOn masters axis start steps number before step → IsLastOn masters axis start steps other between again
    → (number ≡ other) × (before ≡ between) × (step ≡ again)
last_once masters axis start steps number other before between step again (here _ _ _ _ _) (here _ _ _ _ _) =
    (refl, refl, refl)
last_once masters axis start steps number other before between step again (here _ _ more _ none)
    (later _ first _ k _ _ last) =
    absurd (none (last_among masters axis (moved_by masters start first) more k between again last))
last_once masters axis start steps number other before between step again (later _ first more n _ _ last)
    (here _ _ _ _ none) =
    absurd (none (last_among masters axis (moved_by masters start first) more n before step last))
last_once masters axis start steps number other before between step again (later _ first more n _ _ last)
    (later _ _ _ k _ _ same) =
    let r = last_once masters axis (moved_by masters start first) more n k before between step again last same in
    (ap suc r.0, r.1, r.2)

-- ---- the last pass on an axis

-- what is told of a later pass
most_later : (m : List ℤ) (greatest_values : List (List ℤ)) (number : ℕ) → 1 ≤ number
    → most_at (m ∷ greatest_values) (suc number) ≡ most_at greatest_values number
most_later m greatest_values number from =
    let at : suc number - 1 ≡ suc (number - 1) = omega arith in
    ap (λ k. slice_index_or (m ∷ greatest_values) k []) at

last_told : (tech : Tech) (plan : Plan) (masters : List Master) (axis : Axis) (start : List Coords)
    (steps : List Step) (number : ℕ) (before : List Coords) (step : Step) (greatest_values : List (List ℤ))
    → IsLastOn masters axis start steps number before step → AreTold tech plan masters [] start steps greatest_values
    → IsTightMost tech plan masters before step (most_at greatest_values number)
last_told tech plan masters axis start steps number before step [] (here _ _ _ _ _) told = absurd told
last_told tech plan masters axis start steps number before step [] (later _ _ _ _ _ _ _) told = absurd told
last_told tech plan masters axis start steps number before step (m ∷ greatest_values) (here _ _ more on none) told =
    told.0.last
    (λ comes. none (let C : Axis → Type 0 = Contains (axes_of more) in let N : List Axis
    → Type 0 = λ axes. Contains axes step.axis in subst C on (subst N (append-nil (axes_of more)) comes)))
last_told tech plan masters axis start steps number before step (m ∷ greatest_values) (later _ first more n _ _ last)
    told =
    let T : List ℤ → Type 0 = λ values. IsTightMost tech plan masters before step values in
    subst T (sym
    (most_later m greatest_values n
    (last_counted masters axis (moved_by masters start first) more n before step last)))
    (last_told tech plan masters axis (moved_by masters start first) more n before step greatest_values last told.1)

-- ---- the others

others_silent : (tech : Tech) (plan : Plan) (masters : List Master) (start : List Coords) (steps : List Step)
    (greatest_values : List (List ℤ)) (n : ℕ) → AreTold tech plan masters [] start steps greatest_values
    → n < length steps
    → ((axis : Axis) (before : List Coords) (step : Step) → IsLastOn masters axis start steps (suc n) before step → ⊥)
    → most_at greatest_values (suc n) ≡ []
others_silent tech plan masters start [] greatest_values n told lt none = absurd (omega arith)
others_silent tech plan masters start (s ∷ steps) [] n told lt none = absurd told
others_silent tech plan masters start (s ∷ steps) (m ∷ greatest_values) zero told lt none =
    elim (comes_or_not (axes_of steps) s.axis) [
      | inl comes ↦ told.0.others (Contains-append_left (axes_of steps) [] s.axis comes)
      | inr not ↦ absurd (none s.axis start s (here start s steps refl not))
    ]
others_silent tech plan masters start (s ∷ steps) (m ∷ greatest_values) (suc n) told lt none =
    most_later m greatest_values (suc n) (omega arith)
    ∙ others_silent tech plan masters (moved_by masters start s) steps greatest_values n told.1 (omega arith)
    (λ axis before step last. none axis before step (later start s steps (suc n) before step last))

told_counted : (tech : Tech) (plan : Plan) (masters : List Master) (coming : List Axis) (start : List Coords)
    (steps : List Step) (greatest_values : List (List ℤ))
    → AreTold tech plan masters coming start steps greatest_values
    → length greatest_values ≡ length steps
told_counted tech plan masters coming start [] [] told = refl
told_counted tech plan masters coming start [] (m ∷ greatest_values) told = absurd told
told_counted tech plan masters coming start (s ∷ steps) [] told = absurd told
told_counted tech plan masters coming start (s ∷ steps) (m ∷ greatest_values) told =
    ap suc (told_counted tech plan masters coming (moved_by masters start s) steps greatest_values told.1)

-- ---- all of them

pub are_greatest_values : (tech : Tech) (plan : Plan) (masters : List Master) (start : List Coords) (steps : List Step)
    (greatest_values : List (List ℤ))
    → AreTold tech plan masters [] start steps greatest_values
    → AreGreatestValues tech plan masters start steps greatest_values
are_greatest_values tech plan masters start steps greatest_values told = record {
  one_each = told_counted tech plan masters [] start steps greatest_values told;
  last = λ axis number before step last.
      (last_told tech plan masters axis start steps number before step greatest_values last told).most;
  others = λ number from to none.
      let n : ℕ = number - 1 in
      let is : suc n ≡ number = omega arith in
      let N : ℕ → Type 0 = λ k. (axis : Axis) (before : List Coords) (step : Step)
      → IsLastOn masters axis start steps k before step → ⊥ in
      ap (λ k. most_at greatest_values k) (sym is)
      ∙ others_silent tech plan masters start steps greatest_values n told (omega arith) (subst N (sym is) none);
}

pub are_tight : (tech : Tech) (plan : Plan) (masters : List Master) (start : List Coords) (steps : List Step)
    (greatest_values : List (List ℤ))
    → AreTold tech plan masters [] start steps greatest_values → AreTight tech plan masters start steps greatest_values
are_tight tech plan masters start steps greatest_values told = λ axis number before step last.
    (last_told tech plan masters axis start steps number before step greatest_values last told).tight
