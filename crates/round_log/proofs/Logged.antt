-- The log that a cycle is read from, by its entries.
use Rattle.std.proofs.Common.{◌≡◌, ℕ, zero, suc, ◌-◌, ◌<◌, ◌≤◌, Some, List, [], ◌∷◌, ◌++◌, map, inl, inr, length}
use Rattle.std.proofs.{Common.{get_or, drop, take, sym, ap, subst, ◌∙◌, arith}, lemmas.List.take-append-drop}
use Rattle.std.{proofs.lemmas.List.length-drop, specs.List.All}
use Rattle.cons_graph.specs.{declared.edges.Edge.Edge, Constraints.{Constraints, IsConstraintGraph}}
use Rattle.cons_graph.specs.{EdgeNumbers.edge_at, SimpleWalks.IsSimplePositiveCycle}
use Rattle.round_log.specs.{declared.log.{Entry.Entry, Log.Log}, Looks.{chain, raise_of, latest}, Logs.IsLogOfLooks}
use Rattle.round_log.specs.Logs.{IsMadeByLooks, raises_in, up_to_entry, NewestComesBack, ComeFromOlder}
use Rattle.round_log.{specs.Entries.AreEntries, proofs.Raises.{IsRaise, IsJustified, raise_of-is, latest_in_log}}
use Rattle.round_log.proofs.Chains.{In, In-chain, chain-append, chain-newest, raise_linked, raise_rising}
use Rattle.round_log.proofs.{Ends.{map-map, numbers}, Members.In-map-back, Cycles.{IsLoop, loop_of_raise}}
use Rattle.round_log.proofs.{Outcomes.{simple_from_loop, In-loop_back}, Least.edge_among, Planned.In-at}
use Rattle.round_log.specs.WalksBack as back

-- a raise of a log of looks, as a raise by its own edge
raise_is : (edge : ℕ → Edge) (rs : List Entry) (r : Entry) → raise_of edge rs r.edge ≡ Some r → IsRaise edge rs r.edge r
raise_is edge rs r e = raise_of-is edge rs r.edge r e

pub made_justified : (edge : ℕ → Edge) (m : ℕ) (rs : List Entry) → IsMadeByLooks edge m rs → IsJustified edge rs
made_justified edge m [] h = tt
made_justified edge m (r ∷ rs) h = (raise_is edge rs r h.1, made_justified edge m rs h.2)

made_older : (g : Constraints) (rs : List Entry) → IsConstraintGraph g
    → IsMadeByLooks (edge_at g.edges) (length g.edges) rs → ComeFromOlder g.vars rs
made_older g [] s h = tt
made_older g (r ∷ rs) s h =
    let i : IsRaise (edge_at g.edges) rs r.edge r = raise_is (edge_at g.edges) rs r h.1 in
    let to : r.var ≡ (edge_at g.edges r.edge).to = i.var_is in
    let prev : r.prev ≡ latest rs (edge_at g.edges r.edge).from = i.prev_is in
    let inside = (edge_among g s r.edge h.0).to_in_range in (
      omega (arith, to, inside),
      omega (arith, prev, latest_in_log rs (edge_at g.edges r.edge).from),
      made_older g rs s
          h.2,
    )

pub entries_are : (g : Constraints) (log : Log) → IsConstraintGraph g → IsLogOfLooks g log
    → AreEntries g.vars log.entries
entries_are g log s h = record { entries_are = h.holds.entries_are; older = made_older g (raises_in log) s h.made }

made_in : (edge : ℕ → Edge) (m : ℕ) (rs : List Entry) (q : Entry) → IsMadeByLooks edge m rs → In q rs → q.edge < m
made_in edge m [] q h i = absurd i
made_in edge m (r ∷ rs) q h i =
    elim i as (λ _. q.edge < m) [
      | inl e ↦ (let P : Entry → Type 0 = λ x. x.edge < m in subst P e h.0)
      | inr j ↦ made_in edge m rs q h.2 j
    ]

made_drop : (edge : ℕ → Edge) (m n : ℕ) (rs : List Entry) → IsMadeByLooks edge m rs → IsMadeByLooks edge m (drop n rs)
made_drop edge m zero rs h = h
made_drop edge m (suc n) [] h = tt
made_drop edge m (suc n) (r ∷ rs) h = made_drop edge m n rs h.2

-- the chain of an entry is that of the log up to it
pub chain_up_to : (rs : List Entry) (n : ℕ) → n ≤ length rs → chain rs n ≡ chain (up_to_entry rs n) n
chain_up_to rs n le =
    let whole : take (length rs - n) rs ++ up_to_entry rs n ≡ rs = take-append-drop (length rs - n) rs in
    ap (λ l. chain l n) (sym whole)
    ∙ chain-append (take (length rs - n) rs) (up_to_entry rs n) n (omega (arith, length-drop (length rs - n) rs))

length_up_to : (rs : List Entry) (n : ℕ) → n ≤ length rs → length (up_to_entry rs n) ≡ n
length_up_to rs n le = omega (arith, length-drop (length rs - n) rs)

-- the loop of the entry's chain, turned, is the cycle of the log up to it
newest_cycle : (edges : List Edge) (n : ℕ) (rs : List Entry) → length rs ≡ n → NewestComesBack rs
    → back.turned edges (map (λ r. r.edge) (back.loop_back [] (chain rs n))) ≡ back.cycle_of edges rs
newest_cycle edges n [] l h = absurd h
newest_cycle edges n (r ∷ rs) l h =
    ap (λ c. back.turned edges (map (λ q. q.edge) (back.loop_back [] c))) (chain-newest r rs n (sym l))

pub cycle_is : (edges : List Edge) (rs : List Entry) (n : ℕ) → n ≤ length rs → NewestComesBack (up_to_entry rs n)
    → back.turned edges (map (λ r. r.edge) (back.loop_back [] (chain rs n))) ≡ back.cycle_of edges (up_to_entry rs n)
cycle_is edges rs n le h = ap (λ c. back.turned edges (map (λ q. q.edge) (back.loop_back [] c))) (chain_up_to rs n le)
    ∙ newest_cycle edges n (up_to_entry rs n) (length_up_to rs n le) h

-- the edges of the loop are in range
pub loop_in_range : (edges : List Edge) (rs : List Entry) (n : ℕ) → IsMadeByLooks (edge_at edges) (length edges) rs
    → All (λ k. k < length edges) (map (λ r. r.edge) (back.loop_back [] (chain rs n)))
loop_in_range edges rs n h k d lt =
    let ks : List ℕ = map (λ r. r.edge) (back.loop_back [] (chain rs n)) in
    let w = In-map-back (λ (q : Entry). q.edge) (get_or ks k d) (back.loop_back [] (chain rs n)) (In-at ks k d lt) in
    elim (In-loop_back [] (chain rs n) w.0 w.1) as (λ _. get_or ks k d < length edges) [
      | inl b ↦ absurd b
      | inr c ↦
          (let a = made_in (edge_at edges) (length edges) rs w.0 h (In-chain w.0 rs n c) in let e = w.2 in
          omega (arith, a, e))
    ]

-- and make a cycle where the newest raise comes back
newest_simple : (edges : List Edge) (rs : List Entry) → IsMadeByLooks (edge_at edges) (length edges) rs
    → NewestComesBack rs → IsSimplePositiveCycle edges (back.cycle_of edges rs)
newest_simple edges [] m h = absurd h
newest_simple edges (r ∷ rs) m h =
    let j : IsJustified (edge_at edges) rs = made_justified (edge_at edges) (length edges) rs m.2 in
    let i : IsRaise (edge_at edges) rs r.edge r = raise_is (edge_at edges) rs r m.1 in
    let loop : List Entry = back.loop_back [] (r ∷ chain rs r.prev) in
    let found = loop_of_raise (edge_at edges) rs r (raise_linked (edge_at edges) rs r i j)
    (raise_rising (edge_at edges) rs r i j) h in
    let E = λ (es : List Edge). IsLoop (edge_at edges) found.0 es in
    simple_from_loop edges (numbers loop) found.0
    (subst E (sym (map-map (edge_at edges) (λ (c : Entry). c.edge) loop)) found.1) (λ k x.
    let w = In-map-back (λ (c : Entry). c.edge) k loop x in
    let e = w.2 in
    elim (In-loop_back [] (r ∷ chain rs r.prev) w.0 w.1) as (λ _. k < length edges) [
      | inl b ↦ absurd b
      | inr c ↦ elim c as (λ _. k < length edges) [
        | inl s ↦ (let a = m.0 in let q = ap (λ (c : Entry). c.edge) s in omega (arith, a, q, e))
        | inr t ↦
            (let a = made_in (edge_at edges) (length edges) rs w.0 m.2 (In-chain w.0 rs r.prev t) in
            omega (arith, a, e))
      ]
    ])

pub cycle_simple : (edges : List Edge) (rs : List Entry) (n : ℕ) → IsMadeByLooks (edge_at edges) (length edges) rs
    → NewestComesBack (up_to_entry rs n) → IsSimplePositiveCycle edges (back.cycle_of edges (up_to_entry rs n))
cycle_simple edges rs n m h =
    newest_simple edges (up_to_entry rs n) (made_drop (edge_at edges) (length edges) (length rs - n) rs m) h
