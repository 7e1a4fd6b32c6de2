use lib.Signed.{lt_z}
use Rattle.std.proofs.Common.{◌≡◌, ℕ, ◌<◌, ◌≤◌, List, length, get_or, false, ℤ, pos, ◌<ℤ◌, w64, to_z, of_z, IsTrue}
use Rattle.std.proofs.{Common.{FitsSigned, rules, refl, sym, ap, subst, ◌∙◌, arith}, lemmas.{Bool.false≢true, Int.ints}}
use Rattle.std.{proofs.lemmas.{Int.to_z-of_z, List.get_or_read}, specs.List.All}
use Rattle.cons_graph.specs.{declared.edges.{Why.TheVariants.Size, Edge.Edge}, EdgeNumbers.edge_at}
use Rattle.cons_graph.specs.SimpleWalks.{tails_of, length_of, HasNoRepeat, WalksFromTo, IsSimplePositiveCycle}
use Rattle.cons_graph.proofs.CycleTest.{few_without_repeat, cycle_says, walks_of_cycle, least_of_cycle}
use Rattle.cons_graph.proofs.constraint_graph.Graph.check_cycle.Goals as goal

pub length_of_edges-requires-clause-few : goal.length_of_edges-requires-clause-few
length_of_edges-requires-clause-few c =
    let edges : List Edge = c.self.inside.edges.items in
    let R : List Edge → Type 0 = λ es. All (λ k. k < length es) c.args.cycle.now in
    let N : List Edge → Type 0 = λ es. HasNoRepeat (tails_of es c.args.cycle.now) in
    let few = few_without_repeat (record { vars = c.self.inside.vars; edges = edges }) c.args.cycle.now
    c.self.invariant.shape (subst R c.deref.ensures.value (c.if-not-leads.ensures.0 refl).in_range)
    (subst N c.deref-3.ensures.value (c.if-not-no_tail_twice.ensures.0 refl)) in
    let vars = c.self.invariant.shape.few_vars in
    omega (arith, few, vars)

-- a test that fails tells of no cycle where each cycle passes it
no_cycle : (edges same : List Edge) (cycle : List ℕ) (Test : Type 0) → same ≡ edges
    → (IsSimplePositiveCycle edges cycle → Test) → (Test → IsTrue false)
    → (IsTrue false → IsSimplePositiveCycle same cycle) × (IsSimplePositiveCycle same cycle → IsTrue false)
no_cycle edges same cycle Test e passes fails =
    let P : List Edge → Type 0 = λ es. (IsTrue false → IsSimplePositiveCycle es cycle)
    × (IsSimplePositiveCycle es cycle → IsTrue false) in
    subst P (sym e) (λ f. absurd (false≢true f), λ h. fails (passes h))

-- the tail of the first edge, as the code reads it
tail_read : (edges : List Edge) (first : ℕ) (read : Edge) → first < length edges → read ≡ get_or edges first read
    → (edge_at edges first).from ≡ read.from
tail_read edges first read lt e =
    sym (ap (λ e. e.from) (get_or_read edges first read lt e (record { from = 0; to = 0; len = pos 0; why = Size })))

pub returns-then-not-leads : goal.returns-then-not-leads
returns-then-not-leads c =
    let edges : List Edge = c.self.inside.edges.items in
    let first : ℕ = c.in-Some.first.now in
    let tail = tail_read edges first c.index.result.now (search rules) c.index.ensures in
    let W : List Edge → Type 0 =
    λ es. WalksFromTo es c.index.result.now.from c.args.cycle.now c.index.result.now.from in
    let V : ℕ → Type 0 = λ v. WalksFromTo edges v c.args.cycle.now v in
    no_cycle edges c.args.self.now.edges c.args.cycle.now (W c.deref.result.now)
    (ap (λ g. g.edges) (sym c.self.view_is))
    (λ h. subst W (sym c.deref.ensures.value)
    (subst V tail
    (walks_of_cycle edges c.args.cycle.now first (sym c.in-Some.ensures.value) h))) c.if-not-leads.ensures.1

pub returns-then-not-no_tail_below : goal.returns-then-not-no_tail_below
returns-then-not-no_tail_below c =
    let edges : List Edge = c.self.inside.edges.items in
    let first : ℕ = c.in-Some.first.now in
    let tail = tail_read edges first c.index.result.now (search rules) c.index.ensures in
    let L : List Edge → Type 0 = λ es. All (λ u. c.index.result.now.from ≤ u) (tails_of es c.args.cycle.now) in
    let V : ℕ → Type 0 = λ v. All (λ u. v ≤ u) (tails_of edges c.args.cycle.now) in
    no_cycle edges c.args.self.now.edges c.args.cycle.now (L c.deref-2.result.now)
    (ap (λ g. g.edges) (sym c.self.view_is))
    (λ h. subst L (sym c.deref-2.ensures.value)
    (subst V tail
    (least_of_cycle edges c.args.cycle.now first (sym c.in-Some.ensures.value)
    h))) c.if-not-no_tail_below.ensures.1

pub returns-then-not-no_tail_twice : goal.returns-then-not-no_tail_twice
returns-then-not-no_tail_twice c =
    let edges : List Edge = c.self.inside.edges.items in
    let N : List Edge → Type 0 = λ es. HasNoRepeat (tails_of es c.args.cycle.now) in
    no_cycle edges c.args.self.now.edges c.args.cycle.now (N c.deref-3.result.now)
    (ap (λ g. g.edges) (sym c.self.view_is)) (λ h. subst N (sym c.deref-3.ensures.value) h.no_repeat)
    c.if-not-no_tail_twice.ensures.1

-- the code's test of a sum
positive_test : (r : ℤ) → FitsSigned w64 r → (IsTrue (lt_z (pos 0) (to_z w64 (of_z w64 r))) → pos 0 <ℤ r)
    × (pos 0 <ℤ r → IsTrue (lt_z (pos 0) (to_z w64 (of_z w64 r))))
positive_test r f =
    let e : to_z w64 (of_z w64 r) ≡ r = to_z-of_z w64 r f in
    let P : ℤ → Type 0 = λ x. (IsTrue (lt_z (pos 0) x) → pos 0 <ℤ r) × (pos 0 <ℤ r → IsTrue (lt_z (pos 0) x)) in
    subst P (sym e) (λ h. grind (arith, ints), λ h. grind (arith, ints))

pub returns : goal.returns
returns c =
    let edges : List Edge = c.self.inside.edges.items in
    let first : ℕ = c.in-Some.first.now in
    let r : ℤ = c.length_of_edges.result in
    let fits : FitsSigned w64 r = search rules in
    let E : List Edge → Type 0 =
    λ es. (IsTrue (lt_z (pos 0) (to_z w64 (of_z w64 r))) → IsSimplePositiveCycle es c.args.cycle.now)
    × (IsSimplePositiveCycle es c.args.cycle.now → IsTrue (lt_z (pos 0) (to_z w64 (of_z w64 r)))) in
    let test = positive_test r fits in
    let W : List Edge → Type 0 =
    λ es. WalksFromTo es (edge_at edges first).from c.args.cycle.now (edge_at edges first).from in
    let L : List Edge → Type 0 = λ es. All (λ u. (edge_at edges first).from ≤ u) (tails_of es c.args.cycle.now) in
    let N : List Edge → Type 0 = λ es. HasNoRepeat (tails_of es c.args.cycle.now) in
    let inside : first < length edges = search rules in
    let tail : c.index.result.now.from ≡ (edge_at edges first).from =
    ap (λ e. e.from)
    (get_or_read edges first c.index.result.now inside c.index.ensures
    (record { from = 0; to = 0; len = pos 0; why = Size })) in
    let W' : ℕ → Type 0 = λ v. WalksFromTo c.deref.result.now v c.args.cycle.now v in
    let L' : ℕ → Type 0 = λ v. All (λ u. v ≤ u) (tails_of c.deref-2.result.now c.args.cycle.now) in
    let says = cycle_says edges c.args.cycle.now first r (sym c.in-Some.ensures.value)
    (subst W c.deref.ensures.value (subst W' tail (c.if-not-leads.ensures.0 refl)))
    (subst L c.deref-2.ensures.value (subst L' tail (c.if-not-no_tail_below.ensures.0 refl)))
    (subst N c.deref-3.ensures.value (c.if-not-no_tail_twice.ensures.0 refl))
    (c.length_of_edges.ensures ∙ ap (λ es. length_of es c.args.cycle.now) c.deref-4.ensures.value) in
    subst E (ap (λ g. g.edges) c.self.view_is) (λ t. says.0 (test.0 t), λ h. test.1 (says.1 h))
