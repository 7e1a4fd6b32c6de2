use Rattle.std.proofs.Common.{◌≡◌, ◌-◌, ◌++◌, ◌∙◌, ◌∷◌, [], List, ℕ, ap, take, get_or, arith}
use Rattle.std.{proofs.lemmas.{Grind.flat_map-append, List.{append-nil, get_or_read}}, specs.List.{zip, flat_map}}
use Rattle.plan_model.specs.Rows.{neighbours, zipped_rows}
use Rattle.grid_plan.proofs.Pieces.{neighbours_more, added_after}
use Rattle.grid_plan.proofs.pairs.push_above.Goals as goal

pub loop-r-preserved : goal.loop-r-preserved
loop-r-preserved c =
    let rows = c.args.rows.now in
    let r = c.loop-r.r in
    let before = c.loop-r.invariant in
    let test = c.loop-r-test.true in
    let low = get_or rows (r - 1) [] in
    let high = get_or rows r [] in
    let e : c.as_slice.result.now ≡ low =
    ◌∙◌ {A = List ℕ} c.as_slice.ensures
    (get_or_read rows (r - 1) c.index-rows-r.result (omega arith) c.index-rows-r.is []) in
    let f : c.as_slice-in-loop-r.result.now ≡ high =
    ◌∙◌ {A = List ℕ} c.as_slice-in-loop-r.ensures
    (get_or_read rows r c.index-rows-r-in-loop-r.result (omega arith) c.index-rows-r-in-loop-r.is []) in (
      omega arith,
      added_after c.args.pairs.now.items (flat_map zipped_rows (neighbours (take r rows))) (zip low high) _ _ _ before.1
          (c.in_ok-push_zipped.ensures ∙ ap (λ xs. c.loop-r.pairs.items ++ zip xs c.as_slice-in-loop-r.result.now) e
          ∙ ap (λ xs. c.loop-r.pairs.items ++ zip low xs) f)
          (ap (flat_map zipped_rows) (neighbours_more rows r [] before.0 c.loop-r-test.true)
          ∙ flat_map-append zipped_rows (neighbours (take r rows)) ((low, high) ∷ [])
          ∙ ap (λ zs. flat_map zipped_rows (neighbours (take r rows)) ++ zs) (append-nil (zip low high))),
    )
