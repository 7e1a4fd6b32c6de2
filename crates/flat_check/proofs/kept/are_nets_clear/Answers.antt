use Rattle.std.proofs.{Common.{ℤ, ◌∙◌, subst, w64, rules}, lemmas.{Int.to_z-of_z, Result.IfOk-weaker}}
use Rattle.box_tree.specs.declared.query.Question.TheVariants.{NearOfOtherTag}
use Rattle.flat_check.specs.Clear.{AreClear}
use Rattle.flat_check.proofs.kept.are_nets_clear.Goals as goal

pub returns : goal.returns
returns g c =
    IfOk-weaker c.are_clear.result _ _ (λ clear is yes.
    subst (λ (reach : ℤ). AreClear (NearOfOtherTag reach 0 0) c.args.tree.now c.args.tree.now)
    (to_z-of_z w64 c.reach-reach.result (search rules) ∙ c.reach-reach.ensures.value)
    (is yes)) c.are_clear.ensures
