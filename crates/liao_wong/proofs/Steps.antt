-- The steps of the two parts of a round: what is left to look at, and what holds after each look.
use Rattle.std.proofs.Common.{◌≡◌, ℕ, suc, ◌+◌, ◌-◌, ◌<◌, true, false, not, Some, None, List, [], ◌∷◌, ◌++◌, inl, inr}
use Rattle.std.proofs.Common.{length, get_or, drop, fold, refl, sym, ap, subst, ◌∙◌, arith, nat_eq}
use Rattle.std.proofs.lemmas.{Bool.{cond-true, cond-false, not_from_true, not_from_false, true≢false}, List.drop_more}
use Rattle.std.specs.List.{range_with_len, flat_map, All}
use Rattle.cons_graph.specs.{declared.edges.Edge.Edge, Constraints.Constraints, EdgeNumbers.{edge_at, leaving}}
use Rattle.round_log.specs.{declared.log.Entry.Entry, Looks.{look, raise_of, with_raise, comes_back, is_forward}}
use Rattle.round_log.specs.Rounds.{Progress, after_look, backward_part}
use Rattle.round_log.proofs.{Chains.In, Members.{In-filter, In-range}, Parts.{IsForwardEdge, IsBackwardEdge, Keeps}}
use Rattle.round_log.proofs.{Parts.{forward_keeps, BackwardGives, backward_gives}, Least.edge_among, Planned.In-at}
use Rattle.round_log.proofs.{Planned.place_of_In, Ends.{LogOf, back_of, label_small}}
use Rattle.liao_wong.specs.{Held.{Held, HasSmallLabels, ArePlaces}, Going.{IsReady, forward_of, backward_of}}

-- the graph that a part of a round is about
abbrev graph : ℕ → List Edge → Constraints
graph vars edges = record { vars = vars; edges = edges }

pub ready_small : (vars : ℕ) (edges : List Edge) (order places : List ℕ) (held : Held)
    → IsReady vars edges order places held → HasSmallLabels held
ready_small vars edges order places held h v a lt e =
    label_small (graph vars edges) order held.raises h.shape h.names h.log v a
    (let s = h.same_vars in omega (arith, s, lt)) e

pub places_by_length : (order places : List ℕ) (vars : ℕ) → ArePlaces order vars places
    → ArePlaces order (length places) places
places_by_length order places vars h = (refl, λ v lt. h.1 v (let s = h.0 in omega (arith, s, lt)))

-- a raise by a forward edge keeps all that the rounds rest on
pub ready_forward : (vars : ℕ) (edges : List Edge) (order places : List ℕ) (held : Held) (k : ℕ) (r : Entry)
    → IsReady vars edges order places held → k < length edges → is_forward order (edge_at edges k) ≡ true
    → raise_of (edge_at edges) held.raises k ≡ Some r
    → IsReady vars edges order places (record { vars = held.vars; raises = r ∷ held.raises })
ready_forward vars edges order places held k r h lt up e =
    let g : Constraints = graph vars edges in
    let one : (j : ℕ) → In j (k ∷ []) → IsForwardEdge (edge_at edges) (back_of g order) (length edges) j =
    λ j i. elim i as (λ _. IsForwardEdge (edge_at edges) (back_of g order) (length edges) j) [
      | inl s ↦
          (let P : ℕ → Type 0 = λ x. IsForwardEdge (edge_at edges) (back_of g order) (length edges) x in subst P s
          (record {
            among = lt;
            forward = not_from_true (is_forward order (edge_at edges k)) up;
            ends_differ = (edge_among g h.shape k lt).ends_differ;
          }))
      | inr b ↦ absurd b
    ] in
    let kept : Keeps (edge_at edges) (back_of g order) (length edges) 0 held.raises
    (look (edge_at edges) held.raises k) =
    forward_keeps (edge_at edges) (back_of g order) (length edges) 0 held.raises (k ∷ []) one h.log
    (λ j i. inl refl) in
    let L : List Entry → Type 0 = λ rs. LogOf g order rs in
    record {
      shape = h.shape;
      names = h.names;
      places_are = h.places_are;
      same_vars = h.same_vars;
      log = subst L (ap (λ o. with_raise o held.raises) e) kept.log;
    }

-- a raise by a backward edge too, unless it stops the rounds
pub ready_backward : (vars : ℕ) (edges : List Edge) (order places : List ℕ) (held : Held) (k : ℕ) (r : Entry)
    → IsReady vars edges order places held → k < length edges → is_forward order (edge_at edges k) ≡ false
    → raise_of (edge_at edges) held.raises k ≡ Some r → comes_back held.raises r ≡ false
    → IsReady vars edges order places (record { vars = held.vars; raises = r ∷ held.raises })
ready_backward vars edges order places held k r h lt down e n =
    let g : Constraints = graph vars edges in
    let rs : List Entry = held.raises in
    let one : (j : ℕ) → In j (k ∷ []) → IsBackwardEdge (edge_at edges) (back_of g order) (length edges) j =
    λ j i. elim i as (λ _. IsBackwardEdge (edge_at edges) (back_of g order) (length edges) j) [
      | inl s ↦
          (let P : ℕ → Type 0 = λ x. IsBackwardEdge (edge_at edges) (back_of g order) (length edges) x in subst P s
          (record {
            among = lt;
            backward = not_from_false (is_forward order (edge_at edges k)) down;
            ends_differ = (edge_among g h.shape k lt).ends_differ;
          }))
      | inr b ↦ absurd b
    ] in
    let gives = backward_gives (edge_at edges) (back_of g order) (length edges) 0 rs (k ∷ []) one h.log
    (λ j i. inl refl) in
    let stop : Progress = record { raises = r ∷ rs; stopped = true } in
    let on : Progress = record { raises = r ∷ rs; stopped = false } in
    let is : backward_part (edge_at edges) (k ∷ []) rs ≡ on =
    ap (λ o. after_look o rs (backward_part (edge_at edges) [])) e ∙ cond-false (comes_back rs r) stop on n in
    let P : Progress → Type 0 = λ p. BackwardGives (edge_at edges) (back_of g order) (length edges) 0 rs (k ∷ []) p in
    elim (subst P is gives) as (λ _. IsReady vars edges order places (record { vars = held.vars; raises = r ∷ rs })) [
      | inl x ↦
          record {
            shape = h.shape;
            names = h.names;
            places_are = h.places_are;
            same_vars = h.same_vars;
            log = x.1.log;
          }
      | inr x ↦ absurd (true≢false (sym x.0))
    ]

-- looks at forward edges keep it
pub ready_looks : (vars : ℕ) (edges : List Edge) (order places numbers : List ℕ) (held : Held)
    → IsReady vars edges order places held → All (λ k. k < length edges) numbers
    → IsReady vars edges order places
    (record { vars = held.vars; raises = fold (look (edge_at edges)) held.raises (forward_of edges order numbers) })
ready_looks vars edges order places numbers held h r =
    let g : Constraints = graph vars edges in
    let each : (j : ℕ) → In j (forward_of edges order numbers)
    → IsForwardEdge (edge_at edges) (back_of g order) (length edges) j = λ j i.
    let w = In-filter (λ k. is_forward order (edge_at edges k)) j numbers i in
    let at' = place_of_In numbers j w.0 in
    let lt : j < length edges = (let a = r at'.0 0 at'.1 in let b = at'.2 0 in omega (arith, a, b)) in
    record {
      among = lt;
      forward = not_from_true (is_forward order (edge_at edges j)) w.1;
      ends_differ = (edge_among g h.shape j lt).ends_differ;
    } in
    record {
      shape = h.shape;
      names = h.names;
      places_are = h.places_are;
      same_vars = h.same_vars;
      log = (forward_keeps (edge_at edges) (back_of g order) (length edges) 0 held.raises
          (forward_of edges order numbers) each h.log (λ j i. inl refl)).log;
    }

-- ---- what is left to look at, in the forward part

pub left_look : (edges : List Edge) (order numbers : List ℕ) (i : ℕ) (rs : List Entry) → i < length numbers
    → is_forward order (edge_at edges (get_or numbers i 0)) ≡ true
    → fold (look (edge_at edges)) (look (edge_at edges) rs (get_or numbers i 0))
    (forward_of edges order (drop (i + 1) numbers)) ≡ fold (look (edge_at edges)) rs
    (forward_of edges order (drop i numbers))
left_look edges order numbers i rs lt up =
    let k : ℕ = get_or numbers i 0 in
    let rest : List ℕ = forward_of edges order (drop (i + 1) numbers) in
    sym (ap (λ l. fold (look (edge_at edges)) rs (forward_of edges order l)) (drop_more numbers i 0 lt)
    ∙ ap (fold (look (edge_at edges)) rs) (cond-true (is_forward order (edge_at edges k)) (k ∷ rest) rest up))

pub left_skip : (edges : List Edge) (order numbers : List ℕ) (i : ℕ) (rs : List Entry) → i < length numbers
    → is_forward order (edge_at edges (get_or numbers i 0)) ≡ false
    → fold (look (edge_at edges)) rs (forward_of edges order (drop (i + 1) numbers))
    ≡ fold (look (edge_at edges)) rs (forward_of edges order (drop i numbers))
left_skip edges order numbers i rs lt down =
    let k : ℕ = get_or numbers i 0 in
    let rest : List ℕ = forward_of edges order (drop (i + 1) numbers) in
    sym (ap (λ l. fold (look (edge_at edges)) rs (forward_of edges order l)) (drop_more numbers i 0 lt)
    ∙ ap (fold (look (edge_at edges)) rs) (cond-false (is_forward order (edge_at edges k)) (k ∷ rest) rest down))

pub look_raises : (edge : ℕ → Edge) (rs : List Entry) (k : ℕ) (r : Entry) → raise_of edge rs k ≡ Some r
    → look edge rs k ≡ r ∷ rs
look_raises edge rs k r e = ap (λ o. with_raise o rs) e

pub look_leaves : (edge : ℕ → Edge) (rs : List Entry) (k : ℕ) → raise_of edge rs k ≡ None → look edge rs k ≡ rs
look_leaves edge rs k e = ap (λ o. with_raise o rs) e

-- one tail's forward edges, and then those of the tails that are left
pub left_group : (edge : ℕ → Edge) (f : ℕ → List ℕ) (vs : List ℕ) (i : ℕ) (rs : List Entry) → i < length vs
    → fold (look edge) (fold (look edge) rs (f (get_or vs i 0))) (flat_map f (drop (i + 1) vs))
    ≡ fold (look edge) rs (flat_map f (drop i vs))
left_group edge f vs i rs lt = sym (fold-append (f (get_or vs i 0)) rs ∙ refl)
    ∙ ap (λ l. fold (look edge) rs (flat_map f l)) (sym (drop_more vs i 0 lt))
  where
    fold-append : (xs : List ℕ) (s : List Entry)
        → fold (look edge) s (xs ++ flat_map f (drop (i + 1) vs))
        ≡ fold (look edge) (fold (look edge) s xs) (flat_map f (drop (i + 1) vs))
    fold-append [] s = refl
    fold-append (x ∷ xs) s = fold-append xs (look edge s x)

-- ---- what is left to look at, in the backward part

range_next : (k m : ℕ) → k < m → range_with_len k (m - k) ≡ k ∷ range_with_len (k + 1) (m - (k + 1))
range_next k m lt = ap (range_with_len k) (let e : m - k ≡ suc (m - (k + 1)) = omega arith in e)

left_back : (edges : List Edge) (order : List ℕ) (k : ℕ) (rs : List Entry) → k < length edges
    → is_forward order (edge_at edges k) ≡ false
    → backward_part (edge_at edges) (backward_of edges order (range_with_len k (length edges - k))) rs
    ≡ after_look (raise_of (edge_at edges) rs k) rs
    (backward_part (edge_at edges) (backward_of edges order (range_with_len (k + 1) (length edges - (k + 1)))))
left_back edges order k rs lt down =
    let rest : List ℕ = backward_of edges order (range_with_len (k + 1) (length edges - (k + 1))) in
    ap (λ l. backward_part (edge_at edges) (backward_of edges order l) rs) (range_next k (length edges) lt)
    ∙ ap (λ l. backward_part (edge_at edges) l rs)
    (cond-true (not (is_forward order (edge_at edges k))) (k ∷ rest) rest
    (not_from_false (is_forward order (edge_at edges k)) down))

pub back_skip : (edges : List Edge) (order : List ℕ) (k : ℕ) (rs : List Entry) → k < length edges
    → is_forward order (edge_at edges k) ≡ true
    → backward_part (edge_at edges) (backward_of edges order (range_with_len (k + 1) (length edges - (k + 1)))) rs
    ≡ backward_part (edge_at edges) (backward_of edges order (range_with_len k (length edges - k))) rs
back_skip edges order k rs lt up =
    let rest : List ℕ = backward_of edges order (range_with_len (k + 1) (length edges - (k + 1))) in
    sym (ap (λ l. backward_part (edge_at edges) (backward_of edges order l) rs) (range_next k (length edges) lt)
    ∙ ap (λ l. backward_part (edge_at edges) l rs)
    (cond-false (not (is_forward order (edge_at edges k))) (k ∷ rest) rest
    (not_from_true (is_forward order (edge_at edges k)) up)))

pub back_leaves : (edges : List Edge) (order : List ℕ) (k : ℕ) (rs : List Entry) → k < length edges
    → is_forward order (edge_at edges k) ≡ false → raise_of (edge_at edges) rs k ≡ None
    → backward_part (edge_at edges) (backward_of edges order (range_with_len (k + 1) (length edges - (k + 1)))) rs
    ≡ backward_part (edge_at edges) (backward_of edges order (range_with_len k (length edges - k))) rs
back_leaves edges order k rs lt down e =
    sym (left_back edges order k rs lt down
    ∙ ap (λ o.
    after_look o rs
    (backward_part (edge_at edges) (backward_of edges order (range_with_len (k + 1) (length edges - (k + 1)))))) e)

pub back_raises : (edges : List Edge) (order : List ℕ) (k : ℕ) (rs : List Entry) (r : Entry) → k < length edges
    → is_forward order (edge_at edges k) ≡ false → raise_of (edge_at edges) rs k ≡ Some r → comes_back rs r ≡ false
    → backward_part (edge_at edges) (backward_of edges order (range_with_len (k + 1) (length edges - (k + 1))))
    (r ∷ rs) ≡ backward_part (edge_at edges) (backward_of edges order (range_with_len k (length edges - k))) rs
back_raises edges order k rs r lt down e n =
    let go_on : List Entry → Progress =
    backward_part (edge_at edges) (backward_of edges order (range_with_len (k + 1) (length edges - (k + 1)))) in
    sym (left_back edges order k rs lt down ∙ ap (λ o. after_look o rs go_on) e
    ∙ cond-false (comes_back rs r) (record { raises = r ∷ rs; stopped = true }) (go_on (r ∷ rs)) n)

pub back_stops : (edges : List Edge) (order : List ℕ) (k : ℕ) (rs : List Entry) (r : Entry) → k < length edges
    → is_forward order (edge_at edges k) ≡ false → raise_of (edge_at edges) rs k ≡ Some r → comes_back rs r ≡ true
    → record { raises = r ∷ rs; stopped = true } ≡ backward_part (edge_at edges)
    (backward_of edges order (range_with_len k (length edges - k))) rs
back_stops edges order k rs r lt down e t =
    let go_on : List Entry → Progress =
    backward_part (edge_at edges) (backward_of edges order (range_with_len (k + 1) (length edges - (k + 1)))) in
    let stop : Progress = record { raises = r ∷ rs; stopped = true } in
    sym (left_back edges order k rs lt down ∙ ap (λ o. after_look o rs go_on) e
    ∙ cond-true (comes_back rs r) stop (go_on (r ∷ rs)) t)

-- edges that leave a variable are in range
pub leaving_in_range : (edges : List Edge) (v : ℕ) → All (λ k. k < length edges) (leaving edges v)
leaving_in_range edges v k d lt =
    let w = In-filter (λ j. nat_eq (edge_at edges j).from v) (get_or (leaving edges v) k d)
    (range_with_len 0 (length edges)) (In-at (leaving edges v) k d lt) in
    let r = In-range (get_or (leaving edges v) k d) 0 (length edges) w.0 in
    let low = r.1 in omega (arith, low)
