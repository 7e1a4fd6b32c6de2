use Rattle.std.proofs.Common.{◌≡◌, ℕ, Some, List, [], ◌∷◌, ◌++◌, set, sym, ◌∙◌, ap, subst}
use Rattle.graph_search.{specs.Search.AreReached, proofs.Marks.reached_one}
use Rattle.net_extract.proofs.searches.begin.Goals as goal

pub returns : goal.returns
returns c =
    let start : ℕ = c.args.start in
    let net : ℕ = c.args.net in
    let old = c.args.frontier.now.marks.items in
    let P : List ℕ → Type 0 = λ queue. AreReached (λ k. k ≡ start) net old (set old start (Some net)) [] queue in
    subst P (sym (c.in_ok-push.ensures.items ∙ ap (λ (xs : List ℕ). xs ++ start ∷ []) c.clear.ensures.items))
    (reached_one start net old [] c.requires.in_range c.requires.unmarked)
