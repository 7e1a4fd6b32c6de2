use Rattle.std.proofs.Common.{ℕ, List, [], ◌∷◌, ◌++◌, ap, ◌∙◌, sym}
use Rattle.design_nets.proofs.Lists.{numbers_more}
use Rattle.design_nets.proofs.node_items.first_numbers.Goals as goal

pub loop-n-preserved : goal.loop-n-preserved
loop-n-preserved c = c.in_ok-push.ensures.items
    ∙ (ap (λ (ns : List ℕ). ns ++ c.loop-n.n ∷ []) c.loop-n.invariant ∙ sym (numbers_more c.loop-n.n))
