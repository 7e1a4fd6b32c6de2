-- The steps of a cell, one by one.
use Rattle.std.proofs.Common.{◌≡◌, ℕ, ◌≤◌, List, [], ◌∷◌, ◌++◌, fold, refl, sym, ap, subst, ◌∙◌, arith}
use Rattle.std.{proofs.lemmas.List.Sums.fold-append, specs.List.AllByRecursion}
use Rattle.checked_cells.specs.{declared.steps.Step.Step, CheckedCell.{CheckedCell, begun, known_at}, Counts.weight_of}
use Rattle.checked_cells.{specs.Steps.{apply, made_by, IsStep, AreStepsOf}, proofs.Counting.weight-with_node}
use Rattle.checked_cells.proofs.Counting.{weight-with_port, weight-with_copy, weight-with_wire, weight-with_limit}
use Rattle.checked_cells.specs.declared.steps.Step.TheVariants as steps
use Rattle.list_facts.proofs.Elements.{all_append}

-- no steps
pub steps-none : (cells : List CheckedCell) (name : List ℕ) (added : List Step) → added ≡ []
    → AreStepsOf cells (begun name) added
steps-none cells name [] e = record { each = tt; make = λ light. refl }
steps-none cells name (step ∷ added) e = absurd (cc)

-- one more step
pub steps-push : (cells : List CheckedCell) (known next : CheckedCell) (old new : List Step) (step : Step)
    → AreStepsOf cells known old → new ≡ old ++ step ∷ [] → IsStep cells step
    → next.name ≡ known.name → weight_of known ≤ weight_of next
    → (weight_of next ≤ 65536 → apply cells known step ≡ next) → AreStepsOf cells next new
steps-push cells known next old new step are more is named heavier to = record {
  each = subst (AllByRecursion (IsStep cells)) (sym more) (all_append (IsStep cells) old (step ∷ []) are.each (is, tt));
  make = λ light.
      ap (λ name. made_by cells name new) named
      ∙ ap (made_by cells known.name) more
      ∙ fold-append (apply cells) (begun known.name) old (step ∷ [])
      ∙ ap (λ (so_far : CheckedCell). apply cells so_far step) (are.make (omega (arith, heavier, light)))
      ∙ to light;
}

-- a cell weighs no less with a step
pub weight-apply : (cells : List CheckedCell) (known : CheckedCell) (step : Step)
    → weight_of known ≤ weight_of (apply cells known step)
weight-apply cells known (steps.Node name kind col row) = omega (arith, weight-with_node known name.now kind col row)
weight-apply cells known (steps.Port name side layer place) =
    omega (arith, weight-with_port known name.now side layer place)
weight-apply cells known (steps.Copy name k col row) =
    omega (arith, weight-with_copy known name.now k (known_at cells k) col row)
weight-apply cells known (steps.Wire wire) = omega (arith, weight-with_wire known wire)
weight-apply cells known (steps.Limit limit) = omega (arith, weight-with_limit known limit)

-- nor with more of them
pub weight-made : (cells : List CheckedCell) (known : CheckedCell) (added : List Step)
    → weight_of known ≤ weight_of (fold (apply cells) known added)
weight-made cells known [] = omega arith
weight-made cells known (step ∷ added) =
    omega (arith, weight-apply cells known step, weight-made cells (apply cells known step) added)
