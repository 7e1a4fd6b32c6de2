use Rattle.std.proofs.Common.{◌≡◌, ◌+◌, ◌++◌, ◌∙◌, ◌∷◌, [], ap, sym, map, arith}
use Rattle.std.{proofs.lemmas.List.FromFn.map-range_with_len_more, specs.List.range_with_len}
use Rattle.plan_model.specs.Rows.{column_at}
use Rattle.grid_plan.proofs.pairs.columns.Goals as goal

pub loop-c-preserved : goal.loop-c-preserved
loop-c-preserved c =
    let f = column_at c.args.rows.now in
    let k = c.loop-c.c in
    let prefix = map f (range_with_len 0 k) in
    let made : c.in_ok-column.field-0 ≡ f k = c.in_ok-column.ensures in
    let rest : prefix ++ f k ∷ [] ≡ map f (range_with_len 0 (k + 1)) =
    sym (map-range_with_len_more f 0 k k (omega arith)) in
    c.in_ok-push.ensures.items
    ∙ (ap (λ zs. zs ++ c.in_ok-column.field-0 ∷ []) c.loop-c.invariant ∙ (ap (λ z. prefix ++ z ∷ []) made ∙ rest))
