use Rattle.std.proofs.{Common.{◌≡◌, ◌≤◌, [], ◌∷◌, get_or, sym, subst, ◌∙◌, arith}, lemmas.List.Elements.All-get_or}
use Rattle.std.{proofs.lemmas.List.Elements.All-append, specs.Prelude.All}
use Rattle.checked_cells.specs.{Counts.{boxes_of, weight_of}, CheckedCell.known_at, Tables.known_of}
use Rattle.design_masters.{specs.Limits.most_items, proofs.{Counting.{push_mapped, all_of_one}, Weights.fewer_boxes}}
use Rattle.design_masters.proofs.masters.boxes_of_each.Goals as goal

pub loop-master-preserved : goal.loop-master-preserved
loop-master-preserved c =
    let cells = known_of c.args.cells.now in
    let numbers = c.args.masters.now in
    let i = c.loop-master.master-index in
    let lt = c.loop-master-test.true in
    let k = get_or numbers i 0 in
    let light = All-get_or (λ n. weight_of (known_at cells n) ≤ most_items) numbers i 0 lt c.requires.light in
    let fewer = fewer_boxes (known_at cells k) in
    let told = c.boxes.ensures in
    let count : c.boxes.result ≡ boxes_of (known_at cells k) = omega (arith, told, fewer, light) in
    let few : c.boxes.result ≤ most_items = omega (arith, count, fewer, light) in
    let inv = c.loop-master.invariant in
    let pushed = c.in_ok-push.ensures.items in (
      pushed ∙ (push_mapped (λ n. boxes_of (known_at cells n)) c.loop-master.boxes.items c.boxes.result numbers i 0 lt
          inv.0 count),
      subst (λ ns. All (λ n. n ≤ most_items) ns) (sym pushed)
          (All-append (λ n. n ≤ most_items) c.loop-master.boxes.items (c.boxes.result ∷ []) inv.1
          (all_of_one (λ n. n ≤ most_items) c.boxes.result few)),
    )
