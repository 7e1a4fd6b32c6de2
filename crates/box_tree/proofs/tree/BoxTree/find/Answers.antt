use Rattle.std.{proofs.Common.{◌≡◌, ℕ, List, subst}, specs.Prelude.MatchOption}
use Rattle.box_tree.specs.{declared.entries.Entry.Entry, Queries.HoldsAt}
use Rattle.box_tree.proofs.tree.BoxTree.find.Goals as goal

pub returns : goal.returns
returns c =
    let query = c.args.query.now in
    let same : c.deref.result.now ≡ c.args.self.now = cc in
    subst (λ (entries : List Entry). MatchOption c.search.result ((k : ℕ) → HoldsAt entries query k → ⊥)
    (HoldsAt entries query)) same c.search.ensures
