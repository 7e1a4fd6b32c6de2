use Rattle.std.proofs.{Common.{Option, ℤ, subst}, lemmas.Bool.iff_false}
use Rattle.box_tree.specs.Queries.{IsFar}
use Rattle.box_tree.proofs.Within.{too_far, encloses_itself}
use Rattle.box_tree.proofs.query.Query.holds.Goals as goal

pub returns-then-is_far : goal.returns-then-is_far
returns-then-is_far c =
    let query = c.args.self.now in
    let area = c.args.entry.now.area in (
      λ t. (let no : ⊥ = cc in absurd no),
      λ h.
          absurd
          (too_far query.question query.area area c.args.entry.now _ c.reach_of.ensures
          (c.is_far.ensures.0 c.if-is_far.true) (encloses_itself area) h),
    )

pub is_answered-requires-clause-near : goal.is_answered-requires-clause-near
is_answered-requires-clause-near c =
    let F : Option ℤ → Type 0 = λ reach. IsFar c.args.self.now.area reach c.args.entry.now.area → ⊥ in
    subst F c.reach_of.ensures (iff_false c.is_far.ensures c.if-is_far.false)
