-- The two outcomes of the rounds: a cycle where they stop, the least solution where they end; and one of the two comes.
use Rattle.std.proofs.Common.{◌≡◌, ℕ, zero, suc, ◌+◌, ◌<◌, ◌≤◌, ℤ, pos, ◌<ℤ◌, Bool, false, eqb, List, [], ◌∷◌, ◌++◌}
use Rattle.std.proofs.Common.{map, ◌⊎◌, inl, inr, length, get_or, take, drop, refl, sym, ap, subst, ◌∙◌, arith}
use Rattle.std.proofs.lemmas.{Bool.{true≢false, cond_both}, List.{map-append, take-map, get_or-drop}}
use Rattle.std.proofs.lemmas.List.{get_or_append_left, length-drop, take-append-drop, get_or_default}
use Rattle.std.specs.List.{All, Contains, range_with_len, list_any}
use Rattle.cons_graph.specs.{declared.edges.{Edge.Edge, Why.TheVariants.Size}, Constraints.Constraints}
use Rattle.cons_graph.specs.{Constraints.IsConstraintGraph, Solutions.IsLeastSolution, Walks.{walk_length, IsCycle}}
use Rattle.cons_graph.specs.{Walks.HasPositiveCycle, SimpleWalks.{edges_of, tails_of, IsSimplePositiveCycle}}
use Rattle.cons_graph.{specs.EdgeNumbers.edge_at, proofs.CycleTest.cycle_from_walk}
use Rattle.round_log.specs.{declared.log.Entry.Entry, WalksBack.{up_to, loop_back, turned, cycle_of, least_place}}
use Rattle.round_log.specs.{Orders.NamesEachOnce, Looks.chain, Rounds.{Progress, Schedule, schedule_of, forward_part}}
use Rattle.round_log.specs.Rounds.{round, one_more, after_rounds, EndsInRound}
use Rattle.round_log.proofs.{Raises.{IsQuiet, IsJustified}, Chains.{In, In-chain, raise_linked, raise_rising}}
use Rattle.round_log.proofs.Members.{In-map-back, In-append, In-append-left, In-append-right, In-range-from, In-range}
use Rattle.round_log.proofs.{Members.IsDistinct, Parts.{IsStopAt, log_justified, Keeps}, RoundSteps.forward_next}
use Rattle.round_log.proofs.{RoundSteps.{rounds_give, one_more_going, one_more_stopped, all_quiet}, Least.label_value}
use Rattle.round_log.proofs.{Least.quiet_least, Planned.{planned, place_of_In}, Walking.pairs_from_IsDistinct}
use Rattle.round_log.proofs.Cycles.{tails, IsLoop, loop_of_raise, turned_loop, least_place_in_range, least_place_least}
use Rattle.round_log.proofs.Ends.{LogOf, GoingOf, back_of, numbers, map-map, All-from_In, log_entry}

-- ---- a turned loop as numbers of edges

map-drop : {X Y : Type 0} (f : X → Y) (n : ℕ) (xs : List X) → map f (drop n xs) ≡ drop n (map f xs)
map-drop f zero xs = refl
map-drop f (suc n) [] = refl
map-drop f (suc n) (x ∷ xs) = map-drop f n xs

In-turned : {X : Type 0} (x : X) (p : ℕ) (xs : List X) → In x (drop p xs ++ take p xs) → In x xs
In-turned {X} x p xs i =
    let P : List X → Type 0 = λ l. In x l in
    subst P (take-append-drop p xs)
    (elim (In-append x (drop p xs) (take p xs) i) as (λ _. In x (take p xs ++ drop p xs)) [
      | inl a ↦ In-append-right x (take p xs) (drop p xs) a
      | inr b ↦ In-append-left x (take p xs) (drop p xs) b
    ])

map-turned : {X Y : Type 0} (f : X → Y) (p : ℕ) (xs : List X)
    → map f (drop p xs ++ take p xs) ≡ drop p (map f xs) ++ take p (map f xs)
map-turned f p xs = map-append f (drop p xs) (take p xs) ∙ ap (λ l. l ++ map f (take p xs)) (map-drop f p xs)
    ∙ ap (λ l. drop p (map f xs) ++ l) (sym (take-map f p xs))

first_of_turned : (p : ℕ) (xs : List ℕ) → p < length xs → get_or (drop p xs ++ take p xs) 0 0 ≡ get_or xs p 0
first_of_turned p xs lt =
    let some : 0 < length (drop p xs) = omega (arith, length-drop p xs) in
    get_or_append_left (drop p xs) (take p xs) 0 0 some ∙ get_or-drop p xs 0 0 ∙ ap (λ k. get_or xs k 0) (omega arith)

-- a loop of edges in range, turned to its variable of least number
pub simple_from_loop : (edges : List Edge) (ks : List ℕ) (v : ℕ) → IsLoop (edge_at edges) v (edges_of edges ks)
    → ((k : ℕ) → In k ks → k < length edges) → IsSimplePositiveCycle edges (turned edges ks)
simple_from_loop edges ks v h r =
    let es : List Edge = edges_of edges ks in
    let ts : List ℕ = tails_of edges ks in
    let p : ℕ = least_place ts in
    let now = turned_loop (edge_at edges) v p es h in
    let here : edges_of edges (turned edges ks) ≡ drop p es ++ take p es = map-turned (edge_at edges) p ks in
    let there : tails_of edges (turned edges ks) ≡ drop p ts ++ take p ts =
    map-turned (λ k. (edge_at edges k).from) p ks in
    let same : tails es ≡ ts = map-map (λ (e : Edge). e.from) (edge_at edges) ks in
    let C : List Edge → Type 0 = λ x. IsCycle x in
    let U : List Edge → Type 0 = λ x. pos 0 <ℤ walk_length x in
    let D : List ℕ → Type 0 = λ x. IsDistinct x in
    let L : List ℕ → Type 0 = λ x. All (λ u. get_or x 0 0 ≤ u) x in
    let some : ts ≡ [] → ⊥ = λ e. h.not_empty (nil_of_map es (same ∙ e)) in
    record {
      in_range = All-from_In (λ k. k < length edges) (turned edges ks) (λ k i. r k (In-turned k p ks i));
      closed = subst C (sym here) (cycle_from_walk now.0 (drop p es ++ take p es) now.1.closed now.1.not_empty);
      no_repeat = pairs_from_IsDistinct (tails_of edges (turned edges ks))
          (subst D (ap tails (sym here) ∙ map-map (λ (e : Edge). e.from) (edge_at edges) (turned edges ks))
          now.1.distinct);
      least_first =
          subst L (sym there)
          (All-from_In (λ u. get_or (drop p ts ++ take p ts) 0 0 ≤ u) (drop p ts ++ take p ts)
          (λ u i. let e = first_of_turned p ts (least_place_in_range ts some) in let le = least_place_least ts u
          (In-turned u p ts i) in omega (arith, e, le)));
      positive = subst U (sym here) now.1.positive;
    }
  where
    nil_of_map : (xs : List Edge) → tails xs ≡ [] → xs ≡ []
    nil_of_map [] e = refl
    nil_of_map (x ∷ xs) e = absurd cc

In-up_to : (v : ℕ) (met : List Entry) (q : Entry) → In q (up_to v met) → In q met
In-up_to v [] q i = i
In-up_to v (c ∷ cs) q i =
    let P : List Entry → Type 0 = λ l. In q l → In q (c ∷ cs) in
    cond_both (eqb c.var v) (c ∷ []) (c ∷ up_to v cs) P
    (λ _ j. elim j as (λ _. (c ≡ q) ⊎ In q cs) [ inl e ↦ inl e | inr b ↦ absurd b ])
    (λ _ j. elim j as (λ _. (c ≡ q) ⊎ In q cs) [ inl e ↦ inl e | inr h ↦ inr (In-up_to v cs q h) ]) i

pub In-loop_back : (met rest : List Entry) (q : Entry) → In q (loop_back met rest) → In q met ⊎ In q rest
In-loop_back met [] q i = absurd i
In-loop_back met (c ∷ cs) q i =
    let P : List Entry → Type 0 = λ l. In q l → In q met ⊎ In q (c ∷ cs) in
    cond_both (list_any (λ x. eqb x.var c.var) met) (up_to c.var met) (loop_back (c ∷ met) cs) P
    (λ _ j. inl (In-up_to c.var met q j))
    (λ _ j. elim (In-loop_back (c ∷ met) cs q j) as (λ _. In q met ⊎ In q (c ∷ cs)) [
      | inl h ↦ elim h as (λ _. In q met ⊎ In q (c ∷ cs)) [ inl e ↦ inr (inl e) | inr m ↦ inl m ]
      | inr h ↦ inr (inr h)
    ]) i

-- the cycle of a log that a raise has stopped
pub stop_cycle : (g : Constraints) (back : ℕ → Bool) (raises : List Entry)
    → IsStopAt (edge_at g.edges) back (length g.edges) raises
    → IsSimplePositiveCycle g.edges (cycle_of g.edges raises)
stop_cycle g back raises s =
    let r : Entry = s.newest in
    let rs : List Entry = s.older in
    let j : IsJustified (edge_at g.edges) rs = log_justified (edge_at g.edges) back (length g.edges) rs s.log in
    let loop : List Entry = loop_back [] (r ∷ chain rs r.prev) in
    let found = loop_of_raise (edge_at g.edges) rs r (raise_linked (edge_at g.edges) rs r s.raise j)
    (raise_rising (edge_at g.edges) rs r s.raise j) s.returns in
    let E = λ (es : List Edge). IsLoop (edge_at g.edges) found.0 es in
    let P : List Entry → Type 0 = λ x. IsSimplePositiveCycle g.edges (cycle_of g.edges x) in
    subst P (sym s.is)
    (simple_from_loop g.edges (numbers loop) found.0
    (subst E (sym (map-map (edge_at g.edges) (λ (c : Entry). c.edge) loop)) found.1) (λ k i.
    let w = In-map-back (λ (c : Entry). c.edge) k loop i in
    elim (In-loop_back [] (r ∷ chain rs r.prev) w.0 w.1) as (λ _. k < length g.edges) [
      | inl b ↦ absurd b
      | inr h ↦ elim h as (λ _. k < length g.edges) [
        | inl e ↦ (let a : r.edge < length g.edges = s.among in let q : r.edge ≡ k = ap (λ (c : Entry). c.edge) e
            ∙ w.2 in omega arith)
        | inr c ↦
            (let l = log_entry g back rs w.0 s.log (In-chain w.0 rs r.prev c) in let a = l.0 in let q = w.2 in
            omega (arith, a, q))
      ]
    ]))

-- a cycle of numbers is a positive cycle of the graph
pub has_cycle : (edges : List Edge) (cycle : List ℕ) → IsSimplePositiveCycle edges cycle → HasPositiveCycle edges
has_cycle edges cycle c = (
  edges_of edges cycle,
  record {
    of_these = All-from_In (Contains edges) (edges_of edges cycle) (λ e i.
        let w = In-map-back (edge_at edges) e cycle i in
        let at = place_of_In cycle w.0 w.1 in
        let lt = c.in_range at.0 0 at.1 in
        let inside : w.0 < length edges = (let q = at.2 0 in omega (arith, lt, q)) in
        let P = λ (x : Edge). Contains edges x in
        subst P w.2 (
          w.0,
          inside,
          get_or_default edges w.0 (edge_at edges w.0)
              (record { from = 0; to = 0; len = pos 0; why = Size }) inside,
        ));
    closed = c.closed;
    positive = c.positive;
  },
)

-- ---- the end

-- of rounds that have ended, every edge is quiet
pub record IsEnded (g : Constraints) (order : List ℕ) (rs : List Entry) : Type 0 where
  pub log : LogOf g order rs
  pub quiet : (k : ℕ) → k < length g.edges → IsQuiet (edge_at g.edges) rs k

-- a round that appends nothing in its backward part ends the rounds
pub ended_from_quiet : (g : Constraints) (order : List ℕ) → IsConstraintGraph g → NamesEachOnce g.vars order
    → (d : ℕ) (rs : List Entry) → GoingOf g order d rs
    → (round (schedule_of g.edges order) rs).raises ≡ forward_part (schedule_of g.edges order) rs
    → IsEnded g order (forward_part (schedule_of g.edges order) rs)
ended_from_quiet g order s o d rs going e =
    let p : Schedule = schedule_of g.edges order in
    let first : Keeps (edge_at g.edges) (back_of g order) (length g.edges) d rs (forward_part p rs) =
    forward_next p (back_of g order) (length g.edges) d rs (planned g order s o) going in
    record { log = first.log; quiet = all_quiet p (back_of g order) (length g.edges) rs (planned g order s o) e }

pub ended_from_rounds : (g : Constraints) (order : List ℕ) → IsConstraintGraph g → NamesEachOnce g.vars order
    → (rounds : ℕ) (raises : List Entry) → EndsInRound (schedule_of g.edges order) rounds raises
    → IsEnded g order raises
ended_from_rounds g order s o rounds raises h =
    let p : Schedule = schedule_of g.edges order in
    let now : Progress = after_rounds p h.before in
    let S : ℕ → Type 0 = λ n. (after_rounds p n).stopped ≡ false in
    let R : ℕ → Type 0 = λ n. (after_rounds p n).raises ≡ raises in
    let on : (one_more p now).stopped ≡ false = subst S h.count h.not_stopped in
    let reached : (one_more p now).raises ≡ raises = subst R h.count h.reached in
    let E : List Entry → Type 0 = λ x. IsEnded g order x in
    elim (rounds_give p (back_of g order) (length g.edges) (planned g order s o) h.before)
    as (λ _. IsEnded g order raises) [
      | inl going ↦ subst E (sym h.quiet ∙ reached)
          (ended_from_quiet g order s o h.before now.raises going.1
          (sym (ap (λ x. x.raises) (one_more_going p now going.0)) ∙ h.quiet))
      | inr t ↦ absurd (true≢false (sym t.0 ∙ ap (λ x. x.stopped) (sym (one_more_stopped p now t.0)) ∙ on))
    ]

pub ended_least : (g : Constraints) (order : List ℕ) (rs : List Entry) → IsConstraintGraph g → IsEnded g order rs
    → IsLeastSolution g.vars g.edges (label_value rs)
ended_least g order rs s e = quiet_least g (back_of g order) rs s e.log e.quiet

-- ---- a graph has a solution or a positive cycle

pub every_variable : (vars : ℕ) → NamesEachOnce vars (range_with_len 0 vars)
every_variable vars = record {
  in_range = All-from_In (λ v. v < vars) (range_with_len 0 vars)
      (λ v i. let h = In-range v 0 vars i in let lt = h.1 in omega (arith, lt));
  each = λ v lt. let w = place_of_In (range_with_len 0 vars) v (In-range-from v 0 vars (omega arith) (omega arith)) in
      (w.0, w.1, w.2 v);
  once = pairs_from_IsDistinct (range_with_len 0 vars) (range_distinct 0 vars);
}
  where
    range_distinct : (a n : ℕ) → IsDistinct (range_with_len a n)
    range_distinct a zero = tt
    range_distinct a (suc n) =
        (λ i. let h = In-range a (a + 1) n i in let le = h.0 in omega (arith, le), range_distinct (a + 1) n)
