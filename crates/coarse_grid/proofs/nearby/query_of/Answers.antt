use Rattle.std.{proofs.Common.{◌∙◌, ℕ, Option, Some, None, sym, subst}, specs.Prelude.IfNone}
use Rattle.box_tree.specs.{declared.query.Question.Question, Queries.Answers}
use Rattle.coarse_grid.{specs.Nearby.IsNearOf, proofs.NearGroups.{unruled_near, asked}}
use Rattle.coarse_grid.proofs.nearby.query_of.Goals as goal

if_none : {A : Type 0} (o : Option A) (T : Type 0) → T → IfNone o T
if_none None T t = t
if_none (Some a) T t = tt

pub returns-in_err-rule-clause-none : goal.returns-in_err-rule-clause-none
returns-in_err-rule-clause-none c =
    if_none c.from_residual.result ((k : ℕ) → IsNearOf c.args.tech.now c.args.coords.now c.args.items.now c.args.class
    c.args.i k → ⊥)
    (λ k near. unruled_near c.args.tech.now c.args.coords.now c.args.items.now c.args.class c.args.i k
    (sym c.spacing.ensures.value ∙ c.in_err-rule.was) near)

pub returns-clause-some : goal.returns-clause-some
returns-clause-some c = λ entry is near.
    subst (λ (q : Question). Answers q c.box_of.result entry) (sym c.question_of.ensures.value)
    (asked c.args.tech.now c.args.coords.now c.args.items.now c.args.class c.in_ok-rule.rule c.args.i c.box_of.result
    entry (sym c.spacing.ensures.value ∙ c.in_ok-rule.was) c.box_of.ensures.sides is near)
