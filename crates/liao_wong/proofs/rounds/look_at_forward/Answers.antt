use Rattle.std.proofs.Common.{◌≡◌, ℕ, ◌+◌, ◌<◌, true, false, Bool, Some, None, List, ◌∷◌, drop, fold, get_or, length}
use Rattle.std.proofs.{Common.{set, sym, ap, subst, ◌∙◌, inl, inr, arith}, lemmas.Bool.true≢false}
use Rattle.std.proofs.lemmas.List.{get_or_default}
use Rattle.cons_graph.specs.{declared.edges.Edge.Edge, EdgeNumbers.edge_at}
use Rattle.round_log.specs.{declared.log.Entry.Entry, Looks.{look, is_forward, raise_of, place_in}}
use Rattle.round_log.proofs.Members.{cases_option}
use Rattle.liao_wong.specs.{Held.{Held, ArePlaces}, Going.{IsReady, forward_of}, Worklist.IsWorklist, Marked.is_marked}
use Rattle.liao_wong.{specs.declared.worklist.Worklist.Worklist, proofs.Marking.{set_here, set_keeps, wait_none_more}}
use Rattle.liao_wong.proofs.{Marking.wait_one_more, Worklists.{worklist_raised, worklist_waits}, Looked.HasLookedUpTo}
use Rattle.liao_wong.proofs.{Looked.{looked_quietly, looked_raising, looked_all}, Steps.{ready_small, places_by_length}}
use Rattle.cons_graph.specs.Constraints.{IsEdgeAmong}
use Rattle.liao_wong.proofs.Leaving.{IsSeen, seen_at, seen_forward, seen_raise, seen_among, waits_or_up}
use Rattle.liao_wong.proofs.Steps.{ready_forward, left_look, left_skip, look_raises, look_leaves}
use Rattle.liao_wong.proofs.rounds.look_at_forward.Goals.{then-goes_up+in-Some+in_ok-push, then-goes_up+in_default}
use Rattle.liao_wong.proofs.rounds.look_at_forward.Goals.{else-goes_up}
use Rattle.liao_wong.proofs.rounds.look_at_forward.Goals as goal

pub goes_up-requires-clause-to_in_range : goal.goes_up-requires-clause-to_in_range
goes_up-requires-clause-to_in_range c =
    let vars : ℕ = c.args.raises.now.vars in
    let edges : List Edge = c.args.edges.now in
    let i : ℕ = c.loop-i.i in
    let edge : Edge = c.edge_from-edge.result in
    let seen = seen_at edges c.args.tail c.args.numbers.now c.args.heads.now i edge c.requires.leave c.loop-i-test.true
    c.edge_from-edge.ensures in
    let among : IsEdgeAmong vars edge = seen_among vars edges (get_or c.args.numbers.now i 0) edge
    c.requires.ready.shape (c.requires.leave.in_range i 0 c.loop-i-test.true) seen in
    let small : edge.to < vars = among.to_in_range in
    let one_each : length c.args.order.now.places.items ≡ vars = c.requires.ready.places_are.0 in
    let read = ap length c.deref.ensures.value in
    omega (arith, small, one_each, read)

pub raise_along-requires-clause-small : goal.raise_along-requires-clause-small
raise_along-requires-clause-small c =
    ready_small c.args.raises.now.vars c.args.edges.now c.args.order.now.variables.now c.args.order.now.places.items
    c.loop-i.raises c.loop-i.invariant.ready

pub loop-i-preserved : goal.loop-i-preserved
loop-i-preserved c =
    let vars : ℕ = c.args.raises.now.vars in
    let edges : List Edge = c.args.edges.now in
    let order : List ℕ = c.args.order.now.variables.now in
    let places : List ℕ = c.args.order.now.places.items in
    let tail : ℕ = c.args.tail in
    let numbers : List ℕ = c.args.numbers.now in
    let i : ℕ = c.loop-i.i in
    let k : ℕ = get_or numbers i 0 in
    let held : Held = c.loop-i.raises in
    let old : List Bool = c.args.work.now.ready in
    let ready : List Bool = c.loop-i.work.ready in
    let waiting : List Bool = c.loop-i.work.waiting in
    let before : List Entry = c.args.raises.now.raises in
    let lt : i < length numbers = c.loop-i-test.true in
    let inside : k < length edges = c.requires.leave.in_range i 0 lt in
    let edge : Edge = c.edge_from-edge.result in
    let seen : IsSeen edges k edge =
    seen_at edges tail numbers c.args.heads.now i edge c.requires.leave lt c.edge_from-edge.ensures in
    let inv = c.loop-i.invariant in
    let is_ready : IsReady vars edges order places held = inv.ready in
    let end : List Entry = fold (look (edge_at edges)) before (forward_of edges order numbers) in
    let P : Held → Worklist → Type 0 = λ h x. record {
      ready : IsReady vars edges order places h;
      left : fold (look (edge_at edges)) h.raises (forward_of edges order (drop (i + 1) numbers)) ≡ end;
      worklist : IsWorklist edges order x.ready x.waiting h.raises;
      wait : (j : ℕ) → j < i + 1 → is_forward order (edge_at edges (get_or numbers j 0)) ≡ false
          → is_marked x.waiting (get_or numbers j 0) ≡ true;
      looked : HasLookedUpTo edges order numbers (i + 1) tail old x.ready h.raises;
    } in
    let Q : Held → Type 0 = λ h. P h c.if-goes_up.work in
    let A : List ℕ → Type 0 = λ ps. ArePlaces order (length ps) ps in
    let at' : ArePlaces order (length c.deref.result.now) c.deref.result.now =
    subst A (sym c.deref.ensures.value) (places_by_length order places vars is_ready.places_are) in
    elim c.if-goes_up.branch as (λ _. P c.if-goes_up.raises c.if-goes_up.work) [
      | then-goes_up+in-Some+in_ok-push w ↦ (
          let r : Entry = w.in-Some.raise in
          let up : is_forward order (edge_at edges k) ≡ true = sym (seen_forward edges order k edge seen)
          ∙ sym (w.if-goes_up.ensures order at') in
          let e : raise_of (edge_at edges) held.raises k ≡ Some r =
          sym (seen_raise edges held.raises k edge seen) ∙ sym w.in-Some.ensures.value in
          let now : record { vars = held.vars; raises = r ∷ held.raises } ≡ c.if-goes_up.raises =
          sym (w.raises-is ∙ w.in_ok-push.ensures.ok) in
          let place : ℕ = place_in order r.var in
          let small : place < length order =
          (let s = w.place.ensures.in_order in let q = w.place.ensures.place in omega (arith, s, q)) in
          let marked : set ready place true ≡ w.set.new.self = ap (λ n. set ready n true) (sym w.place.ensures.place)
          ∙ sym w.set.ensures in
          let W : Worklist → Type 0 = λ x. P (record { vars = held.vars; raises = r ∷ held.raises }) x in
          let M : List Bool → Type 0 =
          λ m. P (record { vars = held.vars; raises = r ∷ held.raises })
          (record { ready = m; waiting = waiting }) in
          subst Q now (subst W (sym w.work-is) (subst M marked (record {
            ready = ready_forward vars edges order places held k r is_ready inside up e;
            left = ap (λ s. fold (look (edge_at edges)) s (forward_of edges order (drop (i + 1) numbers)))
                (sym (look_raises (edge_at edges) held.raises k r e))
                ∙ left_look edges order numbers i held.raises lt up ∙ inv.left;
            worklist = worklist_raised edges order ready waiting waiting held.raises k r inv.worklist e small
                (wait_none_more edges order waiting);
            wait = waits_or_up edges order numbers i waiting inv.wait (λ down. absurd (true≢false (sym up ∙ down)));
            looked = looked_raising vars edges order numbers i tail old ready held.raises r is_ready.shape
                c.requires.leave.in_range lt c.requires.leave.tails up e inv.looked;
          }))))
      | then-goes_up+in_default w ↦ (
          let up : is_forward order (edge_at edges k) ≡ true = sym (seen_forward edges order k edge seen)
          ∙ sym (w.if-goes_up.ensures order at') in
          let none : raise_of (edge_at edges) held.raises k ≡ None =
          elim (cases_option (raise_of (edge_at edges) held.raises k)) [
            | inl n ↦ n
            | inr s ↦
                absurd (w.in_default.not-Some s.0
                (w.raise_along.ensures.value ∙ seen_raise edges held.raises k edge seen ∙ s.1))
          ] in
          let W : Worklist → Type 0 = λ x. P held x in
          subst Q (sym w.raises-is) (subst W (sym w.work-is) (record {
            ready = is_ready;
            left = ap (λ s. fold (look (edge_at edges)) s (forward_of edges order (drop (i + 1) numbers)))
                (sym (look_leaves (edge_at edges) held.raises k none))
                ∙ left_look edges order numbers i held.raises lt up ∙ inv.left;
            worklist = inv.worklist;
            wait = waits_or_up edges order numbers i waiting inv.wait (λ down. absurd (true≢false (sym up ∙ down)));
            looked = looked_quietly edges order numbers i tail old ready held.raises inv.looked
                (λ _. none);
          })))
      | else-goes_up w ↦ (
          let down : is_forward order (edge_at edges k) ≡ false = sym (seen_forward edges order k edge seen)
          ∙ sym (w.if-goes_up.ensures order at') in
          let one_each = inv.worklist.one_waiting_each in
          let room : k < length waiting = omega (arith, one_each, inside) in
          let now : List Bool = set waiting k true in
          let W : Worklist → Type 0 = λ x. P held x in
          let M : List Bool → Type 0 = λ m. P held (record { ready = ready; waiting = m }) in
          subst Q (sym w.raises-is) (subst W (sym w.work-is) (subst M (sym w.set-else-goes_up.ensures) (record {
            ready = is_ready;
            left = left_skip edges order numbers i held.raises lt down ∙ inv.left;
            worklist = worklist_waits edges order ready waiting now held.raises inv.worklist
                (wait_one_more edges order waiting waiting k (wait_none_more edges order waiting) room down);
            wait = waits_or_up edges order numbers i now
                (λ j less back. set_keeps waiting k (get_or numbers j 0) room (inv.wait j less back))
                (λ _. set_here waiting k true room);
            looked = looked_quietly edges order numbers i tail old ready held.raises inv.looked
                (λ up. absurd (true≢false (sym up ∙ down)));
          }))))
    ]

pub returns-clause-waiting : goal.returns-clause-waiting
returns-clause-waiting c j d lt =
    let waiting : List Bool = c.loop-i.work.waiting in
    let order : List ℕ = c.args.order.now.variables.now in
    let Waits : ℕ → Type 0 = λ k. is_forward order (edge_at c.args.edges.now k) ≡ false → is_marked waiting k ≡ true in
    subst Waits (get_or_default c.args.numbers.now j 0 d lt) (c.loop-i.invariant.wait j (omega arith))

pub returns-clause-looked : goal.returns-clause-looked
returns-clause-looked c =
    looked_all c.args.edges.now c.args.order.now.variables.now c.args.numbers.now c.loop-i.i c.args.tail
    c.args.work.now.ready c.loop-i.work.ready c.loop-i.raises.raises (omega arith) c.loop-i.invariant.looked
