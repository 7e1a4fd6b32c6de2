use Rattle.std.{proofs.Common.{◌≡◌, ◌↔◌, ℕ, Bool, Option, Some, None, IsTrue}, specs.Prelude.{MatchOption, is_some}}
use Rattle.box_tree.specs.Queries.{HoldsAt}
use Rattle.box_tree.proofs.tree.BoxTree.any.Goals as goal

some_found : (P : ℕ → Type 0) (found : Option ℕ) (b : Bool) → b ≡ is_some found
    → MatchOption found ((k : ℕ) → P k → ⊥) P → IsTrue b ↔ ((k : ℕ) × P k)
some_found P (Some k) b is h = (λ _. (k, h), λ _. is)
some_found P None b is h = (λ t. let no : ⊥ = cc in absurd no, λ w. absurd (h w.0 w.1))

pub returns : goal.returns
returns c = some_found (HoldsAt c.args.self.now c.args.query.now) c.find.result c.is_some.result c.is_some.ensures
    c.find.ensures
