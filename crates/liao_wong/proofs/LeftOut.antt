-- Looks at edges that append nothing may be left out.
use Rattle.std.proofs.Common.{◌≡◌, ℕ, zero, suc, ◌+◌, ◌-◌, ◌<◌, ◌≤◌, Bool, true, false, eqb, List, [], ◌∷◌, inl, inr}
use Rattle.std.proofs.{Common.{length, get_or, drop, fold, refl, sym, ap, ◌∙◌, arith}, lemmas.Bool.cases_Bool}
use Rattle.std.{proofs.lemmas.Bool.{eqb-true, true≢false}, specs.List.{range_with_len, flat_map}}
use Rattle.cons_graph.specs.{declared.edges.Edge.Edge, EdgeNumbers.{edge_at, leaving}}
use Rattle.round_log.specs.{declared.log.Entry.Entry, Looks.{look, is_forward, place_in}, Orders.NamesEachOnce}
use Rattle.round_log.specs.Rounds.{backward_part}
use Rattle.round_log.proofs.{Chains.In, Members.{In-filter, In-range}, Planned.IsDistinct-from_pairs}
use Rattle.liao_wong.specs.{Going.{group_of, backward_of}, Marked.{is_marked, AreUnmarked}, Worklist.AppendsNothing}
use Rattle.liao_wong.{specs.Worklist.{IsWorklist, has_ready_tail}, proofs.Steps.{look_leaves, left_group, back_skip}}
use Rattle.liao_wong.proofs.{Steps.back_leaves, Course.place_at, Worklists.AheadWait}

-- ---- in the forward part

fold_none : (edges : List Edge) (rs : List Entry) (ks : List ℕ) → ((k : ℕ) → In k ks → AppendsNothing edges rs k)
    → fold (look (edge_at edges)) rs ks ≡ rs
fold_none edges rs [] h = refl
fold_none edges rs (k ∷ ks) h =
    ap (λ s. fold (look (edge_at edges)) s ks) (look_leaves (edge_at edges) rs k (h k (inl refl)))
    ∙ fold_none edges rs ks (λ j i. h j (inr i))

-- the groups of the places from one on that are not ready
groups_none : (edges : List Edge) (order : List ℕ) (rs : List Entry) (at n : ℕ) → at + n ≤ length order
    → ((j : ℕ) → at ≤ j → j < at + n → (k : ℕ) → In k (group_of edges order (get_or order j 0))
    → AppendsNothing edges rs k) → fold (look (edge_at edges)) rs (flat_map (group_of edges order)
    (drop (at + n) order)) ≡ fold (look (edge_at edges)) rs (flat_map (group_of edges order) (drop at order))
groups_none edges order rs at zero le h =
    let e : at + zero ≡ at = omega arith in
    ap (λ m. fold (look (edge_at edges)) rs (flat_map (group_of edges order) (drop m order))) e
groups_none edges order rs at (suc n) le h =
    let e : at + suc n ≡ (at + 1) + n = omega arith in
    let rest : List ℕ = flat_map (group_of edges order) (drop (at + 1) order) in
    let here : fold (look (edge_at edges)) rs (group_of edges order (get_or order at 0)) ≡ rs =
    fold_none edges rs (group_of edges order (get_or order at 0)) (h at (omega arith) (omega arith)) in
    ap (λ m. fold (look (edge_at edges)) rs (flat_map (group_of edges order) (drop m order))) e
    ∙ groups_none edges order rs (at + 1) n (omega arith) (λ j low high. h j (omega arith) (omega arith))
    ∙ ap (λ s. fold (look (edge_at edges)) s rest) (sym here)
    ∙ left_group (edge_at edges) (group_of edges order) order at rs (omega arith)

-- an edge of the group of a place is a forward one from the variable there
of_group : (edges : List Edge) (order : List ℕ) (v k : ℕ) → In k (group_of edges order v)
    → (k < length edges) × ((edge_at edges k).from ≡ v) × (is_forward order (edge_at edges k) ≡ true)
of_group edges order v k i =
    let f = In-filter (λ j. is_forward order (edge_at edges j)) k (leaving edges v) i in
    let l = In-filter (λ j. eqb (edge_at edges j).from v) k (range_with_len 0 (length edges)) f.0 in
    let r = In-range k 0 (length edges) l.0 in
    ((let high = r.1 in omega (arith, high)), eqb-true (edge_at edges k).from v l.1, f.1)

pub left_to_place : (vars : ℕ) (edges : List Edge) (order : List ℕ) (ready waiting : List Bool) (rs : List Entry)
    (at place : ℕ) → NamesEachOnce vars order → IsWorklist edges order ready waiting rs → at ≤ place
    → place ≤ length order → AreUnmarked ready at place
    → fold (look (edge_at edges)) rs (flat_map (group_of edges order) (drop place order))
    ≡ fold (look (edge_at edges)) rs (flat_map (group_of edges order) (drop at order))
left_to_place vars edges order ready waiting rs at place o w low high none =
    let n : ℕ = place - at in
    let e : at + n ≡ place = omega arith in
    let quiet : (j : ℕ) → at ≤ j → j < at + n → (k : ℕ) → In k (group_of edges order (get_or order j 0))
    → AppendsNothing edges rs k = λ j from to k i.
    let g = of_group edges order (get_or order j 0) k i in
    let below : j < place = omega arith in
    let p : place_in order (edge_at edges k).from ≡ j = ap (place_in order) g.1
    ∙ place_at order j (IsDistinct-from_pairs order o.once) (omega arith) in
    w.forward k g.0 g.2 (ap (is_marked ready) p ∙ none j from below) in
    ap (λ m. fold (look (edge_at edges)) rs (flat_map (group_of edges order) (drop m order))) (sym e)
    ∙ groups_none edges order rs at n (omega arith) quiet

-- ---- in the backward part

backs_none : (edges : List Edge) (order : List ℕ) (rs : List Entry) (at n : ℕ) → at + n ≤ length edges
    → ((k : ℕ) → at ≤ k → k < at + n → is_forward order (edge_at edges k) ≡ false → AppendsNothing edges rs k)
    → backward_part (edge_at edges) (backward_of edges order (range_with_len (at + n) (length edges - (at + n)))) rs
    ≡ backward_part (edge_at edges) (backward_of edges order (range_with_len at (length edges - at))) rs
backs_none edges order rs at zero le h =
    let e : at + zero ≡ at = omega arith in
    ap (λ m. backward_part (edge_at edges) (backward_of edges order (range_with_len m (length edges - m))) rs) e
backs_none edges order rs at (suc n) le h =
    let e : at + suc n ≡ (at + 1) + n = omega arith in
    let lt : at < length edges = omega arith in
    ap (λ m. backward_part (edge_at edges) (backward_of edges order (range_with_len m (length edges - m))) rs) e
    ∙ backs_none edges order rs (at + 1) n (omega arith) (λ k low high. h k (omega arith) (omega arith))
    ∙ elim (cases_Bool (is_forward order (edge_at edges at)))
    as (λ _. backward_part (edge_at edges)
    (backward_of edges order (range_with_len (at + 1) (length edges - (at + 1)))) rs
    ≡ backward_part (edge_at edges) (backward_of edges order (range_with_len at (length edges - at))) rs) [
      | inl up ↦ back_skip edges order at rs lt up
      | inr down ↦ back_leaves edges order at rs lt down (h at (omega arith) (omega arith) down)
    ]

pub left_to_edge : (edges : List Edge) (order : List ℕ) (ready waiting : List Bool) (rs : List Entry) (at k : ℕ)
    → IsWorklist edges order ready waiting rs → AheadWait edges order ready waiting at → at ≤ k → k ≤ length edges
    → AreUnmarked waiting at k
    → backward_part (edge_at edges) (backward_of edges order (range_with_len k (length edges - k))) rs
    ≡ backward_part (edge_at edges) (backward_of edges order (range_with_len at (length edges - at))) rs
left_to_edge edges order ready waiting rs at k w ahead low high none =
    let n : ℕ = k - at in
    let e : at + n ≡ k = omega arith in
    let quiet : (j : ℕ) → at ≤ j → j < at + n → is_forward order (edge_at edges j) ≡ false
    → AppendsNothing edges rs j = λ j from to down.
    let below : j < k = omega arith in
    let lt : j < length edges = omega arith in
    let rest : is_marked waiting j ≡ false = none j from below in
    elim (cases_Bool (has_ready_tail edges order ready j)) as (λ _. AppendsNothing edges rs j) [
      | inl t ↦ absurd (true≢false (sym (ahead j from lt down t) ∙ rest))
      | inr idle ↦ w.backward j lt down idle rest
    ] in
    ap (λ m. backward_part (edge_at edges) (backward_of edges order (range_with_len m (length edges - m))) rs) (sym e)
    ∙ backs_none edges order rs at n (omega arith) quiet
