-- The axes of passes, and what is settled on them.
use Rattle.std.proofs.Common.{◌≡◌, ℕ, suc, ◌<◌, List, [], ◌∷◌, ◌++◌, length, inl, inr, refl, sym, ap, ◌∙◌, take, drop}
use Rattle.std.proofs.{Common.{get_or, arith, drop-cons, Contains}, lemmas.List.take-append-drop}
use Rattle.std.proofs.lemmas.List.Elements.{Contains-append_left, Contains-append_right, Contains-append_cases}
use Rattle.lam_geom.specs.declared.boxes.Axis.{Axis}
use Rattle.rule_table.specs.declared.technology.Tech.{Tech}
use Rattle.sym_items.specs.declared.items.Coords.{Coords}
use Rattle.expand.specs.declared.master.Master.{Master}
use Rattle.plan_model.specs.declared.plan.Plan.{Plan}
use Rattle.pass_run.specs.{declared.step.Step.Step, Passes.axes_of, Laid.AreSettled}

pub axes_more : (steps : List Step) (step : Step) → axes_of (steps ++ step ∷ []) ≡ axes_of steps ++ step.axis ∷ []
axes_more [] step = refl
axes_more (s ∷ steps) step = ap (λ (axes : List Axis). s.axis ∷ axes) (axes_more steps step)

pub axes_counted : (steps : List Step) → length (axes_of steps) ≡ length steps
axes_counted [] = refl
axes_counted (s ∷ steps) = ap suc (axes_counted steps)

-- ---- the axes that have had passes

none_among : (axis : Axis) → Contains [] axis → ⊥
none_among axis h = let lt = h.1 in omega arith

first_later : (first : Axis) (later had : List Axis) (axis : Axis) → Contains ((first ∷ later) ++ had) axis
    → Contains (later ++ first ∷ had) axis
first_later first later had axis h =
    elim (Contains-append_cases (first ∷ []) (later ++ had) axis h) [
      | inl own ↦ Contains-append_right later (first ∷ had) axis (Contains-append_left (first ∷ []) had axis own)
      | inr more ↦
          elim (Contains-append_cases later had axis more) [
            | inl among ↦ Contains-append_left later (first ∷ had) axis among
            | inr old ↦ Contains-append_right later (first ∷ had) axis (Contains-append_right (first ∷ []) had axis old)
          ]
    ]

-- on no axis is anything settled
pub none_settled : (tech : Tech) (plan : Plan) (masters : List Master) (layouts : List Coords)
    → AreSettled tech plan masters [] layouts
none_settled tech plan masters layouts =
    record { met = λ axis h. absurd (none_among axis h); long = λ axis h. absurd (none_among axis h) }

-- what is settled by the first and then by those after it is settled by all of them
pub settled_first : (tech : Tech) (plan : Plan) (masters : List Master) (axis : Axis) (later had : List Axis)
    (after : List Coords) → AreSettled tech plan masters (later ++ axis ∷ had) after
    → AreSettled tech plan masters ((axis ∷ later) ++ had) after
settled_first tech plan masters axis later had after s = record {
  met = λ a h. s.met a (first_later axis later had a h);
  long = λ a h. s.long a (first_later axis later had a h);
}

-- where an axis comes next
pub axes_split : (axes : List Axis) (k : ℕ) (d : Axis) → k < length axes
    → axes ≡ take k axes ++ (get_or axes k d ∷ drop (suc k) axes)
axes_split axes k d lt = sym (take-append-drop k axes)
    ∙ ap (λ (zs : List Axis). take k axes ++ zs) (drop-cons axes k d lt)
