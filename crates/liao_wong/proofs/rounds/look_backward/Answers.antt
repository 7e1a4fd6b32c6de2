use Rattle.std.proofs.Common.{◌≡◌, ℕ, ◌+◌, ◌-◌, ◌<◌, ◌≤◌, true, false, Bool, Some, None, List, ◌∷◌, length, set, sym}
use Rattle.std.{proofs.Common.{ap, subst, ◌∙◌, inl, inr, arith}, specs.List.range_with_len}
use Rattle.cons_graph.specs.{declared.edges.Edge.Edge, EdgeNumbers.{edge_at, leaving}}
use Rattle.round_log.specs.declared.log.Entry.{Entry}
use Rattle.round_log.specs.{Looks.{is_forward, raise_of, comes_back, backward_numbers, place_in}, Rounds.backward_part}
use Rattle.round_log.proofs.{Members.cases_option, Least.edge_among, Planned.{place_in_range, In-from_contains}}
use Rattle.liao_wong.specs.{Held.Held, Going.{IsReady, backward_of}, Marked.{AreUnmarked, IsNextMark}}
use Rattle.liao_wong.specs.{Worklist.{IsWorklist, WaitToo}, declared.worklist.Worklist.Worklist}
use Rattle.liao_wong.proofs.Steps.{ready_small, ready_backward, back_leaves, back_raises, back_stops}
use Rattle.liao_wong.proofs.Worklists.{AheadWait, own_none, backward_wait, worklist_raised, worklist_looked}
use Rattle.liao_wong.proofs.{Worklists.{ahead_looked, ahead_raised}, Leaving.all_leave}
use Rattle.liao_wong.proofs.rounds.look_backward.Goals.{in-Some-raise_at+in_ok-push+else-stops, in_default-raise_at}
use Rattle.liao_wong.proofs.LeftOut.{left_to_edge}
use Rattle.liao_wong.proofs.rounds.look_backward.Goals as goal

pub raise_at-requires-clause-small : goal.raise_at-requires-clause-small
raise_at-requires-clause-small c =
    ready_small c.args.g.now.vars c.args.g.now.edges c.args.order.now.variables.now c.args.order.now.places.items
    c.loop-k.raises c.loop-k.invariant.ready

pub mark_raised-requires-clause-leave : goal.mark_raised-requires-clause-leave
mark_raised-requires-clause-leave c =
    let v : ℕ = c.in-Some-raise_at.raise.var in
    let vars = c.loop-k.invariant.ready.same_vars in
    let small = c.in-Some-raise_at.ensures.pushable.0 in
    let inside : v < c.args.g.now.vars = omega (arith, vars, small) in
    all_leave c.args.g.now.edges c.edges-edges.result.now v c.out_of.result.now c.heads_out_of.result.now
    c.edges-edges.ensures.value (c.out_of.ensures ∙ c.requires.index.leave v inside)
    (c.heads_out_of.ensures ∙ c.requires.index.lead v inside)

pub returns-then-stops-clause-part : goal.returns-then-stops-clause-part
returns-then-stops-clause-part c =
    let edges : List Edge = c.args.g.now.edges in
    let order : List ℕ = c.args.order.now.variables.now in
    let held : Held = c.loop-k.raises in
    let k : ℕ = c.in-Some.k in
    let at : ℕ = c.loop-k.at in
    let r : Entry = c.in-Some-raise_at.raise in
    let ready : List Bool = c.loop-k.work.ready in
    let waiting : List Bool = c.loop-k.work.waiting in
    let inv = c.loop-k.invariant in
    let next : IsNextMark waiting at (length waiting) k = c.in-Some.ensures.next in
    let one_each = inv.worklist.one_waiting_each in
    let below = next.below_end in
    let lt : k < length edges = omega (arith, one_each, below) in
    let down : is_forward order (edge_at edges k) ≡ false = inv.worklist.only_backward k next.marked in
    let same : c.edges-edges.result.now ≡ edges = c.edges-edges.ensures.value in
    let e : raise_of (edge_at edges) held.raises k ≡ Some r =
    ap (λ es. raise_of (edge_at es) held.raises k) (sym same) ∙ sym c.in-Some-raise_at.ensures.value in
    let back : comes_back held.raises r ≡ true = sym c.comes_back-stops.ensures ∙ c.if-stops.true in
    ap (λ h. record { raises = h.raises; stopped = true }) c.in_ok-push.ensures.ok
    ∙ back_stops edges order k held.raises r lt down e back
    ∙ left_to_edge edges order ready waiting held.raises at k inv.worklist inv.ahead next.from_start (omega arith)
    next.least ∙ inv.left

pub loop-k-preserved : goal.loop-k-preserved
loop-k-preserved c =
    let vars : ℕ = c.args.g.now.vars in
    let edges : List Edge = c.args.g.now.edges in
    let order : List ℕ = c.args.order.now.variables.now in
    let places : List ℕ = c.args.order.now.places.items in
    let held : Held = c.loop-k.raises in
    let rs : List Entry = held.raises in
    let k : ℕ = c.in-Some.k in
    let at : ℕ = c.loop-k.at in
    let ready : List Bool = c.loop-k.work.ready in
    let waiting : List Bool = c.loop-k.work.waiting in
    let inv = c.loop-k.invariant in
    let is_ready : IsReady vars edges order places held = inv.ready in
    let next : IsNextMark waiting at (length waiting) k = c.in-Some.ensures.next in
    let unchanged : c.next.new.self ≡ waiting = c.in-Some.ensures.same in
    let one_each = inv.worklist.one_waiting_each in
    let below = next.below_end in
    let from : at ≤ k = next.from_start in
    let lt : k < length edges = omega (arith, one_each, below) in
    let down : is_forward order (edge_at edges k) ≡ false = inv.worklist.only_backward k next.marked in
    let es : List Edge = c.edges-edges.result.now in
    let same : es ≡ edges = c.edges-edges.ensures.value in
    let end = backward_part (edge_at edges) (backward_numbers edges order) c.args.raises.now.raises in
    let here : backward_part (edge_at edges) (backward_of edges order (range_with_len k (length edges - k))) rs
    ≡ end = left_to_edge edges order ready waiting rs at k inv.worklist inv.ahead from (omega arith) next.least
    ∙ inv.left in
    let P : Held → List Bool → List Bool → Type 0 = λ h w m. record {
      ready : IsReady vars edges order places h;
      left : backward_part (edge_at edges) (backward_of edges order (range_with_len (k + 1) (length edges - (k + 1))))
          h.raises ≡ end;
      worklist : IsWorklist edges order w m h.raises;
      ahead : AheadWait edges order w m (k + 1);
      in_list : k + 1 ≤ length edges;
    } in
    let C : List Bool → Type 0 = λ m. P c.match-raise_at.raises c.match-raise_at.work.ready m in
    let H : Held → Type 0 = λ h. P h c.match-raise_at.work.ready (set c.match-raise_at.work.waiting k false) in
    subst C (sym c.clear.ensures)
    (elim c.match-raise_at.branch
    as (λ _. P c.match-raise_at.raises c.match-raise_at.work.ready (set c.match-raise_at.work.waiting k false)) [
      | in-Some-raise_at+in_ok-push+else-stops w ↦ (
          let r : Entry = w.in-Some-raise_at.raise in
          let v : ℕ = r.var in
          let e : raise_of (edge_at edges) rs k ≡ Some r = ap (λ l. raise_of (edge_at l) rs k) (sym same)
          ∙ sym w.in-Some-raise_at.ensures.value in
          let on : comes_back rs r ≡ false = sym w.comes_back-stops.ensures ∙ w.if-stops.false in
          let pushed : record { vars = held.vars; raises = r ∷ rs } ≡ c.match-raise_at.raises =
          sym (w.raises-is ∙ w.in_ok-push.ensures.ok) in
          let var_small = w.in-Some-raise_at.ensures.pushable.0 in
          let same_vars = is_ready.same_vars in
          let inside : v < vars = omega (arith, var_small, same_vars) in
          let small : place_in order v < length order =
          place_in_range order v (In-from_contains order v (is_ready.names.each v inside)) in
          let ns : List ℕ = w.out_of.result.now in
          let is : ns ≡ leaving edges v = w.out_of.ensures ∙ c.requires.index.leave v inside in
          let now : List Bool = w.mark_raised.new.self.waiting in
          let M : List Edge → Type 0 = λ l. WaitToo l order c.next.new.self now in
          let N : List Bool → Type 0 = λ l. WaitToo edges order l now in
          let more : WaitToo edges order waiting now = subst N unchanged (subst M same w.mark_raised.ensures.grows) in
          let R : List Bool = set ready (place_in order v) true in
          let raised : IsWorklist edges order R now (r ∷ rs) =
          worklist_raised edges order ready waiting now rs k r inv.worklist e small more in
          let ends = (edge_among (record { vars = vars; edges = edges }) is_ready.shape k lt).ends_differ in
          let ahead : AheadWait edges order R now at =
          ahead_raised vars edges order ready waiting now at v is_ready.shape is_ready.names inside inv.ahead more
          (λ idle. backward_wait edges es order v ns now same is (w.mark_raised.ensures.all idle)) in
          let W : Worklist → Type 0 =
          λ x. P (record { vars = held.vars; raises = r ∷ rs }) x.ready (set x.waiting k false) in
          let T : List Bool → Type 0 = λ l. P (record { vars = held.vars; raises = r ∷ rs }) l (set now k false) in
          subst H pushed (subst W (sym w.work-is) (subst T (sym w.mark_raised.ensures.ready) (record {
            ready = ready_backward vars edges order places held k r is_ready lt down e on;
            left = back_raises edges order k rs r lt down e on ∙ here;
            worklist = worklist_looked edges order R now (r ∷ rs) k raised lt (own_none edges rs k r ends e);
            ahead = ahead_looked edges order R now at k ahead from;
            in_list = omega arith;
          }))))
      | in_default-raise_at w ↦ (
          let none : raise_of (edge_at edges) rs k ≡ None =
          elim (cases_option (raise_of (edge_at edges) rs k)) [
            | inl n ↦ n
            | inr s ↦
                absurd (w.in_default-raise_at.not-Some s.0
                (c.raise_at.ensures.value ∙ ap (λ l. raise_of (edge_at l) rs k) same ∙ s.1))
          ] in
          let W : Worklist → Type 0 = λ x. P held x.ready (set x.waiting k false) in
          let T : List Bool → Type 0 = λ l. P held ready (set l k false) in
          subst H (sym w.raises-is) (subst W (sym w.work-is) (subst T (sym unchanged) (record {
            ready = is_ready;
            left = back_leaves edges order k rs lt down none ∙ here;
            worklist = worklist_looked edges order ready waiting rs k inv.worklist lt none;
            ahead = ahead_looked edges order ready waiting at k inv.ahead from;
            in_list = omega arith;
          }))))
    ])

pub returns-clause-part : goal.returns-clause-part
returns-clause-part c =
    let edges : List Edge = c.args.g.now.edges in
    let order : List ℕ = c.args.order.now.variables.now in
    let rs : List Entry = c.loop-k.raises.raises in
    let at : ℕ = c.loop-k.at in
    let ready : List Bool = c.loop-k.work.ready in
    let waiting : List Bool = c.loop-k.work.waiting in
    let inv = c.loop-k.invariant in
    let one_each = inv.worklist.one_waiting_each in
    let none : AreUnmarked waiting at (length waiting) = c.in_default.ensures.next in
    let N : ℕ → Type 0 = λ n. AreUnmarked waiting at n in
    let rest : backward_part (edge_at edges)
    (backward_of edges order (range_with_len (length edges) (length edges - length edges))) rs
    ≡ backward_part (edge_at edges) (backward_numbers edges order) c.args.raises.now.raises =
    left_to_edge edges order ready waiting rs at (length edges) inv.worklist inv.ahead inv.in_list (omega arith)
    (subst N one_each none) ∙ inv.left in
    let zero_left : length edges - length edges ≡ 0 = omega arith in
    ap (λ n. backward_part (edge_at edges) (backward_of edges order (range_with_len (length edges) n)) rs)
    (sym zero_left) ∙ rest
