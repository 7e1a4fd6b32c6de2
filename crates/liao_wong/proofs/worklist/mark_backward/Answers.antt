use Rattle.std.proofs.Common.{◌≡◌, ℕ, ◌+◌, ◌<◌, Bool, true, false, List, length, get_or, set, sym, ap, subst, ◌∙◌, pos}
use Rattle.std.proofs.{Common.arith, lemmas.{Bool.true≢false, List.get_or_default}}
use Rattle.cons_graph.specs.{declared.edges.{Edge.Edge, Why.TheVariants.Size}, EdgeNumbers.edge_at}
use Rattle.round_log.specs.Looks.{is_forward}
use Rattle.liao_wong.specs.{Held.ArePlaces, Marked.is_marked, Worklist.WaitToo}
use Rattle.liao_wong.proofs.{Leaving.{IsSeen, seen_at, seen_forward, waits_or_up}, Marking.{set_here, set_keeps}}
use Rattle.liao_wong.proofs.Marking.{wait_one_more}
use Rattle.liao_wong.proofs.worklist.mark_backward.Goals.{then-not-goes_up, else-not-goes_up}
use Rattle.liao_wong.proofs.worklist.mark_backward.Goals as goal

pub goes_up-requires-clause-to_in_range : goal.goes_up-requires-clause-to_in_range
goes_up-requires-clause-to_in_range c =
    let edges : List Edge = c.args.edges.now in
    let i : ℕ = c.loop-i.i in
    let k : ℕ = get_or c.args.numbers.now i 0 in
    let edge : Edge = c.edge_from.result in
    let seen : IsSeen edges k edge =
    seen_at edges c.args.tail c.args.numbers.now c.args.heads.now i edge c.requires.leave c.loop-i-test.true
    c.edge_from.ensures in
    let to : edge.to ≡ (edge_at edges k).to = ap (λ e. e.to) seen in
    let small : (edge_at edges k).to < length c.args.order.now.places.items =
    (c.requires.ends k (record { from = 0; to = 0; len = pos 0; why = Size })
    (c.requires.leave.in_range i 0 c.loop-i-test.true)).1 in
    let read = ap length c.deref.ensures.value in
    omega (arith, to, small, read)

pub loop-i-preserved : goal.loop-i-preserved
loop-i-preserved c =
    let edges : List Edge = c.args.edges.now in
    let order : List ℕ = c.args.order.now.variables.now in
    let numbers : List ℕ = c.args.numbers.now in
    let i : ℕ = c.loop-i.i in
    let k : ℕ = get_or numbers i 0 in
    let edge : Edge = c.edge_from.result in
    let old : List Bool = c.args.waiting.now in
    let waiting : List Bool = c.loop-i.waiting in
    let inv = c.loop-i.invariant in
    let seen : IsSeen edges k edge =
    seen_at edges c.args.tail numbers c.args.heads.now i edge c.requires.leave c.loop-i-test.true
    c.edge_from.ensures in
    let A : List ℕ → Type 0 = λ ps. ArePlaces order (length ps) ps in
    let at' : ArePlaces order (length c.deref.result.now) c.deref.result.now =
    subst A (sym c.deref.ensures.value) c.requires.places in
    let P : List Bool → Type 0 = λ m. record {
      grows : WaitToo edges order old m;
      all : (j : ℕ) → j < i + 1 → is_forward order (edge_at edges (get_or numbers j 0)) ≡ false
          → is_marked m (get_or numbers j 0) ≡ true;
    } in
    elim c.if-not-goes_up.branch as (λ _. P c.if-not-goes_up.waiting) [
      | then-not-goes_up w ↦ (
          let down : is_forward order (edge_at edges k) ≡ false = sym (seen_forward edges order k edge seen)
          ∙ sym (w.if-not-goes_up.ensures order at') in
          let inside : k < length edges = c.requires.leave.in_range i 0 c.loop-i-test.true in
          let same = inv.grows.same_length in
          let room : k < length waiting = omega (arith, same, inside, c.requires.room) in
          subst P (sym (w.waiting-is ∙ w.set.ensures)) (record {
            grows = wait_one_more edges order old waiting k inv.grows room down;
            all = waits_or_up edges order numbers i (set waiting k true)
                (λ j less back. set_keeps waiting k (get_or numbers j 0) room (inv.all j less back))
                (λ _. set_here waiting k true room);
          }))
      | else-not-goes_up w ↦ (
          let up : is_forward order (edge_at edges k) ≡ true = sym (seen_forward edges order k edge seen)
          ∙ sym (w.if-not-goes_up.ensures order at') in
          subst P (sym w.waiting-is) (record {
            grows = inv.grows;
            all = waits_or_up edges order numbers i waiting inv.all (λ down. absurd (true≢false (sym up ∙ down)));
          }))
    ]

pub returns-clause-all : goal.returns-clause-all
returns-clause-all c j d lt =
    let Waits : ℕ → Type 0 = λ k. is_forward c.args.order.now.variables.now (edge_at c.args.edges.now k) ≡ false
    → is_marked c.loop-i.waiting k ≡ true in
    subst Waits (get_or_default c.args.numbers.now j 0 d lt) (c.loop-i.invariant.all j (omega arith))
