use Rattle.std.proofs.Common.{◌≡◌, ℕ, ◌+◌, ◌<◌, ◌≤◌, false, Bool, List, drop, fold, get_or, length, inl, inr, sym, ap}
use Rattle.std.{proofs.{Common.{subst, ◌∙◌, arith}, lemmas.{Bool.cases_lt, List.drop_all}}, specs.List.flat_map}
use Rattle.cons_graph.specs.{declared.edges.Edge.Edge, EdgeNumbers.{edge_at, leaving}}
use Rattle.round_log.specs.{Looks.look, Rounds.{forward_part, schedule_of}}
use Rattle.liao_wong.specs.{Held.Held, Going.{IsReady, group_of}, Marked.{AreUnmarked, IsNextMark, is_marked}}
use Rattle.liao_wong.specs.Worklist.{HasLookedAtPlace}
use Rattle.liao_wong.proofs.{Steps.{ready_looks, left_group, leaving_in_range}, LeftOut.left_to_place}
use Rattle.liao_wong.proofs.rounds.look_forward.Goals as goal

-- after the next mark none is left, once it is taken away too
none_after : (old new : List Bool) (at place : ℕ) → AreUnmarked old 0 at → AreUnmarked old at place
    → HasLookedAtPlace place old new → AreUnmarked new 0 (place + 1)
none_after old new at place before between h n low high =
    let P : ℕ → Type 0 = λ m. is_marked new m ≡ false in
    elim (cases_lt n place) as (λ _. is_marked new n ≡ false) [
      | inr not_before ↦ (let e : n ≡ place = omega arith in subst P (sym e) h.done)
      | inl less ↦ h.before n less
          ∙ elim (cases_lt n at) as (λ _. is_marked old n ≡ false)
          [ inl early ↦ before n low early | inr late ↦ between n late less ]
    ]

pub loop-place-preserved : goal.loop-place-preserved
loop-place-preserved c =
    let vars : ℕ = c.args.g.now.vars in
    let edges : List Edge = c.args.g.now.edges in
    let order : List ℕ = c.args.order.now.variables.now in
    let places : List ℕ = c.args.order.now.places.items in
    let held : Held = c.loop-place.raises in
    let place : ℕ = c.in-Some.place in
    let at : ℕ = c.loop-place.at in
    let v : ℕ = get_or order place 0 in
    let ready : List Bool = c.loop-place.work.ready in
    let waiting : List Bool = c.loop-place.work.waiting in
    let inv = c.loop-place.invariant in
    let next : IsNextMark ready at (length ready) place = c.in-Some.ensures.next in
    let from : at ≤ place = next.from_start in
    let one_each = inv.worklist.one_ready_each in
    let below = next.below_end in
    let lt : place < length order = omega (arith, one_each, below) in
    let same : c.next.new.self ≡ ready = c.in-Some.ensures.same in
    let S : List Bool → Type 0 = λ l. HasLookedAtPlace place l c.look_at_place.new.work.ready in
    let P : Held → Type 0 = λ h. IsReady vars edges order places h in
    let F : Held → Type 0 = λ h. fold (look (edge_at edges)) h.raises
    (flat_map (group_of edges order) (drop (place + 1) order))
    ≡ forward_part (schedule_of edges order) c.args.raises.now.raises in
    record {
      ready = subst P (sym c.in_ok-look_at_place.ensures.looks)
          (ready_looks vars edges order places (leaving edges v) held inv.ready (leaving_in_range edges v));
      left = subst F (sym c.in_ok-look_at_place.ensures.looks)
          (left_group (edge_at edges) (group_of edges order) order place held.raises lt
          ∙ left_to_place vars edges order ready waiting held.raises at place inv.ready.names inv.worklist from
          (omega arith) next.least ∙ inv.left);
      worklist = c.in_ok-look_at_place.ensures.worklist;
      after = none_after ready c.look_at_place.new.work.ready at place inv.after next.least
          (subst S same c.in_ok-look_at_place.ensures.place);
      in_order = omega arith;
    }

pub returns-clause-part : goal.returns-clause-part
returns-clause-part c =
    let vars : ℕ = c.args.g.now.vars in
    let edges : List Edge = c.args.g.now.edges in
    let order : List ℕ = c.args.order.now.variables.now in
    let held : Held = c.loop-place.raises in
    let at : ℕ = c.loop-place.at in
    let ready : List Bool = c.loop-place.work.ready in
    let inv = c.loop-place.invariant in
    let one_each = inv.worklist.one_ready_each in
    let none : AreUnmarked ready at (length ready) = c.in_default.ensures.next in
    let N : ℕ → Type 0 = λ n. AreUnmarked ready at n in
    let rest : fold (look (edge_at edges)) held.raises (flat_map (group_of edges order) (drop (length order) order))
    ≡ forward_part (schedule_of edges order) c.args.raises.now.raises =
    left_to_place vars edges order ready c.loop-place.work.waiting held.raises at (length order) inv.ready.names
    inv.worklist inv.in_order (omega arith) (subst N one_each none) ∙ inv.left in
    let all : held.raises ≡ forward_part (schedule_of edges order) c.args.raises.now.raises =
    ap (λ l. fold (look (edge_at edges)) held.raises (flat_map (group_of edges order) l))
    (sym (drop_all (length order) order (omega arith))) ∙ rest in
    λ i. record { vars = inv.ready.same_vars i; raises = all i }
