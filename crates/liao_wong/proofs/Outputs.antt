-- What is read out of a log of ended rounds, or of one that a raise has stopped.
use Rattle.std.proofs.Common.{◌≡◌, ℕ, zero, suc, ◌+◌, ◌<◌, ◌≤◌, ℤ, pos, Bool, true, false, not, Option, Some, List, []}
use Rattle.std.proofs.Common.{◌∷◌, ◌++◌, length, get_or, unwrap_or, refl, sym, ap, subst, ◌∙◌, arith, length-append}
use Rattle.std.proofs.lemmas.{Bool.{cond-true, cond-false, not_from_true, not_from_false}, List.Elements.filter-append}
use Rattle.std.proofs.lemmas.List.{Elements.All-from_get_or, FromFn.length-range_with_len}
use Rattle.std.specs.List.{filter, range_with_len}
use Rattle.cons_graph.specs.{declared.edges.Edge.Edge, Constraints.{Constraints, IsConstraintGraph}}
use Rattle.cons_graph.specs.{EdgeNumbers.edge_at, Solutions.value_of}
use Rattle.round_log.specs.{declared.log.{Entry.Entry, Log.Log}, Logs.{HoldsRaises, ComeFromOlder, IsMadeByLooks}}
use Rattle.round_log.specs.{Logs.{IsLogOfLooks, IsLogOfRounds, raises_in}, Looks.{label, is_forward}}
use Rattle.round_log.specs.{Orders.NamesEachOnce, Rounds.{schedule_of, EndsInRound}, Told.TellAlike, WalksBack.cycle_of}
use Rattle.round_log.proofs.{Raises.raise_of-from, Members.{length_of_distinct, In-range}, Parts.{IsLog, IsStopAt}}
use Rattle.round_log.proofs.{Least.{labelled, label_value, label_value-is, least_same}, Planned.In-from_contains}
use Rattle.round_log.proofs.{Planned.IsDistinct-from_pairs, Ends.{back_of, order_length, label_small}, Outcomes.IsEnded}
use Rattle.round_log.proofs.{Outcomes.{ended_from_rounds, ended_least, every_variable}, Alike.{same_label, same_cycle}}
use Rattle.round_log.proofs.OfRounds.{log_older}
use Rattle.liao_wong.proofs.Course.{filter_le}
use Rattle.liao_wong.specs.declared.solving.Unsolved.{Unsolved, TheVariants.{Cycle, OutOfMemory}}
use Rattle.liao_wong.specs.{Answers.{IfCycle, IsCycleOf, IsWithinLimit}, Going.backward_of, Held.Held}
use Rattle.liao_wong.specs.Running.{IsEndedHeld, IsReadOut, IsStoppedLog}

-- an order has as many places as there are variables
pub order_is_long : (vars : ℕ) (order : List ℕ) → NamesEachOnce vars order → length order ≡ vars
order_is_long vars order o =
    let low = length_of_distinct (range_with_len 0 vars) order
    (IsDistinct-from_pairs (range_with_len 0 vars) (every_variable vars).once)
    (λ v i. In-from_contains order v
    (o.each v (let h = In-range v 0 vars i in let lt = h.1 in omega (arith, lt)))) in
    omega (arith, low, length-range_with_len 0 vars, order_length order vars o)

-- ---- counting the backward edges

pub range_more : (a n : ℕ) → range_with_len a (suc n) ≡ range_with_len a n ++ (a + n) ∷ []
range_more a zero = ap (λ x. x ∷ []) (let e : a ≡ a + 0 = omega arith in e)
range_more a (suc n) =
    ap (λ l. a ∷ l)
    (range_more (a + 1) n ∙ ap (λ x. range_with_len (a + 1) n ++ x ∷ [])
    (let e : (a + 1) + n ≡ a + suc n = omega arith in e))

backward_more : (edges : List Edge) (order : List ℕ) (i : ℕ)
    → backward_of edges order (range_with_len 0 (i + 1)) ≡ backward_of edges order (range_with_len 0 i)
    ++ backward_of edges order (i ∷ [])
backward_more edges order i =
    let test = λ (k : ℕ). not (is_forward order (edge_at edges k)) in
    ap (λ n. filter test (range_with_len 0 n)) (let e : i + 1 ≡ suc i = omega arith in e)
    ∙ ap (filter test)
    (range_more 0 i ∙ ap (λ x. range_with_len 0 i ++ x ∷ []) (let e : 0 + i ≡ i = omega arith in e))
    ∙ filter-append test (range_with_len 0 i) (i ∷ [])

pub count_one : (edges : List Edge) (order : List ℕ) (i : ℕ) → is_forward order (edge_at edges i) ≡ false
    → length (backward_of edges order (range_with_len 0 (i + 1)))
    ≡ length (backward_of edges order (range_with_len 0 i)) + 1
count_one edges order i down =
    let last : length (backward_of edges order (i ∷ [])) ≡ 1 =
    ap length
    (cond-true (not (is_forward order (edge_at edges i))) (i ∷ []) []
    (not_from_false (is_forward order (edge_at edges i)) down)) in
    omega (
      arith,
      ap length (backward_more edges order i),
      length-append
          (backward_of edges order (range_with_len 0 i)) (backward_of edges order (i ∷ [])),
      last,
    )

pub count_none : (edges : List Edge) (order : List ℕ) (i : ℕ) → is_forward order (edge_at edges i) ≡ true
    → length (backward_of edges order (range_with_len 0 (i + 1)))
    ≡ length (backward_of edges order (range_with_len 0 i))
count_none edges order i up =
    let last : length (backward_of edges order (i ∷ [])) ≡ 0 =
    ap length
    (cond-false (not (is_forward order (edge_at edges i))) (i ∷ []) []
    (not_from_true (is_forward order (edge_at edges i)) up)) in
    omega (
      arith,
      ap length (backward_more edges order i),
      length-append
          (backward_of edges order (range_with_len 0 i)) (backward_of edges order (i ∷ [])),
      last,
    )

pub count_low : (edges : List Edge) (order : List ℕ) (i : ℕ) → length (backward_of edges order (range_with_len 0 i)) ≤ i
count_low edges order i =
    omega (
      arith,
      filter_le (λ k. not (is_forward order (edge_at edges k)))
          (range_with_len 0 i),
      length-range_with_len 0 i,
    )

-- ---- a log that a raise has stopped is one of looks

log_made : (edge : ℕ → Edge) (back : ℕ → Bool) (m : ℕ) (rs : List Entry) → IsLog edge back m rs
    → IsMadeByLooks edge m rs
log_made edge back m [] h = tt
log_made edge back m (r ∷ rs) h = (h.0.among, raise_of-from edge rs r.edge r h.0.raise, log_made edge back m rs h.1)

pub stop_made : (edge : ℕ → Edge) (back : ℕ → Bool) (m : ℕ) (raises : List Entry) → IsStopAt edge back m raises
    → IsMadeByLooks edge m raises
stop_made edge back m raises s =
    let P : List Entry → Type 0 = λ rs. IsMadeByLooks edge m rs in
    subst P (sym s.is)
    (s.among, raise_of-from edge s.older s.newest.edge s.newest s.raise, log_made edge back m s.older s.log)

pub stop_looks : (g : Constraints) (order : List ℕ) (held : Held) (log : Log) → held.vars ≡ g.vars
    → IsStopAt (edge_at g.edges) (back_of g order) (length g.edges) held.raises → raises_in log ≡ held.raises
    → HoldsRaises held.vars log held.raises → IsLogOfLooks g log
stop_looks g order held log v s e h =
    let P : List Entry → Type 0 = λ rs. HoldsRaises g.vars log rs in
    let Q : ℕ → Type 0 = λ n. HoldsRaises n log held.raises in
    let R : List Entry → Type 0 = λ rs. IsMadeByLooks (edge_at g.edges) (length g.edges) rs in
    record {
      holds = subst P (sym e) (subst Q v h);
      made = subst R (sym e) (stop_made (edge_at g.edges) (back_of g order) (length g.edges) held.raises s);
    }

-- ---- the solution

-- a log handed out is one of the rounds that all raises are of
out_log : (g : Constraints) (order : List ℕ) (rounds : ℕ) (floor : Option ℕ) (held : Held) (log : Log)
    → (e : IsEndedHeld g order rounds floor held) → raises_in log ≡ held.raises
    → HoldsRaises held.vars log held.raises → IsLogOfRounds g order rounds log
out_log g order rounds floor held log e r h =
    let rs : List Entry = held.raises in
    let vars : held.vars ≡ g.vars = e.vars in
    let P : List Entry → Type 0 = λ q. HoldsRaises g.vars log q in
    let Q : ℕ → Type 0 = λ n. HoldsRaises n log rs in
    let O : List Entry → Type 0 = λ q. ComeFromOlder g.vars q in
    let A : List Entry → Type 0 = λ q. TellAlike q e.end_log.all in
    record {
      holds = subst P (sym r) (subst Q vars h);
      older = subst O (sym r) (log_older g (back_of g order) rs e.shape e.end_log.held_for.log);
      raises = e.end_log.all;
      ended = e.end_log.ended;
      alike = subst A (sym r) e.end_log.held_for.alike;
    }

pub read_is : (g : Constraints) (order : List ℕ) (backward rounds : ℕ) (floor : Option ℕ) (held : Held) (x : List ℤ)
    (log : Log) → IsEndedHeld g order rounds floor held → length x ≡ held.vars
    → ((v : ℕ) → v < held.vars → get_or x v (pos 0) ≡ unwrap_or (label held.raises v) (pos 0))
    → raises_in log ≡ held.raises → HoldsRaises held.vars log held.raises
    → IsReadOut g order backward rounds floor x backward rounds log
read_is g order backward rounds floor held x log e l a r h =
    let rs : List Entry = e.end_log.all in
    let s : IsConstraintGraph g = e.shape in
    let end : IsEnded g order rs = ended_from_rounds g order s e.names rounds rs e.end_log.ended in
    let vars : held.vars ≡ g.vars = e.vars in
    let alike : TellAlike held.raises rs = e.end_log.held_for.alike in
    let told : (v : ℕ) → label held.raises v ≡ label rs v = λ v. same_label held.raises rs v (alike v) in
    let same : (v : ℕ) → v < g.vars → value_of x v ≡ label_value rs v = λ v lt. a v (omega arith)
    ∙ ap (λ o. unwrap_or o (pos 0)) (told v) in
    let at' = labelled g (back_of g order) rs s end.log end.quiet in
    let W : ℤ → Type 0 = λ z. IsWithinLimit z in
    let L : List Entry → Type 0 = λ q. (v : ℕ) → v < g.vars → label q v ≡ Some (value_of x v) in
    record {
      same_backward = refl;
      same_rounds = refl;
      one_each = l ∙ vars;
      of_rounds = out_log g order rounds floor held log e r h;
      ended = λ never.
          (let R : List Entry → Type 0 = λ q. EndsInRound (schedule_of g.edges order) rounds q in subst R
          (sym (r ∙ e.end_log.held_for.whole never)) e.end_log.ended);
      labels =
          subst L (sym r) (λ v lt. let w = at' v lt in told v ∙ w.1
          ∙ ap (λ z. Some z) (sym (same v lt ∙ label_value-is rs v w.0 w.1)));
      small = All-from_get_or IsWithinLimit x (pos 0)
          (λ v lt. let inside : v < g.vars = omega arith in let w = at' v inside in subst W
          (sym (same v inside ∙ label_value-is rs v w.0 w.1))
          (label_small g order rs s e.names end.log v w.0 inside w.1));
      least = least_same g (label_value rs) (value_of x) s (ended_least g order rs s end) same;
    }

-- the cycle of a log at which the rounds have stopped is theirs
pub cycle_is : (g : Constraints) (order : List ℕ) (raises : List Entry) (cycle : List ℕ) → IsStoppedLog g order raises
    → cycle ≡ cycle_of g.edges raises → IsCycleOf g.edges order cycle
cycle_is g order raises cycle s is =
    record { raises = s.all; stops = s.stops; is = is ∙ same_cycle g.edges raises s.all s.newest }

-- ---- answers

pub IfCycle-map : (u : Unsolved) (P Q : List ℕ → Type 0) → ((c : List ℕ) → P c → Q c) → IfCycle u P → IfCycle u Q
IfCycle-map (Cycle c) P Q f h = f c h
IfCycle-map OutOfMemory P Q f h = tt
