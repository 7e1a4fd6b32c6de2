use Rattle.std.proofs.Common.{◌∙◌, List, ℕ, All, length, sym, subst}
use Rattle.plan_model.specs.Rows.{is_pair}
use Rattle.grid_plan.{specs.Small.IsWithin, proofs.PairsWithin.firsts_all}
use Rattle.grid_plan.proofs.planning.ports.Goals as goal

pub matches-requires-clause-masters : goal.matches-requires-clause-masters
matches-requires-clause-masters c =
    let P : List (ℕ × ℕ) → Type 0 = All (IsWithin (length c.args.masters.now)) in
    subst P (sym (◌∙◌ {A = List (ℕ × ℕ)} c.as_slice.ensures.value c.in_ok-each.ensures))
    (firsts_all (IsWithin (length c.args.masters.now)) is_pair c.args.pairs.now (0, 0) c.requires.pairs)
