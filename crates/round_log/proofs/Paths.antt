-- The path of a walk back, and the place of the least tail.
use Rattle.std.proofs.Common.{◌≡◌, ℕ, zero, suc, ◌+◌, ◌-◌, ◌<◌, ◌≤◌, Bool, true, false, eqb, leb, ◌||◌, List, [], ◌∷◌}
use Rattle.std.proofs.Common.{◌++◌, reverse, inl, inr, length, get_or, set, max, drop, refl, sym, ap, subst, ◌∙◌, arith}
use Rattle.std.proofs.{Common.eq-eqb, lemmas.Bool.{cases_eq, cases_order, cond-true, cond-false, ne_eqb, or_left}}
use Rattle.std.proofs.lemmas.{Bool.{or_from, cases_Bool}, List.{length-reverse, reverse-reverse, drop-append-le}}
use Rattle.std.proofs.lemmas.List.{reverse-append, drop_at, get_or-set_same, get_or-set_other}
use Rattle.std.specs.List.{list_any, list_all}
use Rattle.cons_graph.{specs.{declared.edges.Edge.Edge, SimpleWalks.tails_of}, proofs.Tests.length-tails}
use Rattle.round_log.specs.{declared.log.Entry.Entry, Looks.{chain, latest}, WalksBack.{up_to, loop_back, least_place}}
use Rattle.round_log.{specs.{Entries.AreEntries, Logs.raises_of}, proofs.Raises.{latest-same, latest-other}}
use Rattle.round_log.proofs.{Raises.latest_in_log, Planned.In-at, Cycles.{least_place_least, least_place_in_range}}
use Rattle.round_log.proofs.{Cycles.list_all-false, Walking.reverse-cons, Entries.{IsChainStep, chain_step, entry_var}}

-- ---- the path: the raises met so far, whose latest one of each variable is marked

-- a variable is met exactly where it is marked
pub unmarked : (met : List Entry) (v : ℕ) → latest met v ≡ 0 → list_any (λ q. eqb q.var v) met ≡ false
unmarked [] v e = refl
unmarked (r ∷ rs) v e =
    elim (cases_eq r.var v) [
      | inl s ↦ absurd (let l = latest-same r rs v s in omega (arith, e, l))
      | inr n ↦ or_from (eqb r.var v) (list_any (λ q. eqb q.var v) rs) (ne_eqb r.var v n)
          (unmarked rs v (sym (latest-other r rs v n) ∙ e))
    ]

pub marked : (met : List Entry) (v : ℕ) → 0 < latest met v → list_any (λ q. eqb q.var v) met ≡ true
marked [] v lt = absurd (omega arith)
marked (r ∷ rs) v lt =
    elim (cases_eq r.var v) [
      | inl s ↦ or_left (eqb r.var v) (list_any (λ q. eqb q.var v) rs) (eq-eqb r.var v s)
      | inr n ↦ ap (λ b. b || list_any (λ q. eqb q.var v) rs) (ne_eqb r.var v n)
          ∙ marked rs v (let l = latest-other r rs v n in omega (arith, l, lt))
    ]

-- the part of the path from the mark on is the loop
pub from_mark : (met : List Entry) (v : ℕ) → 0 < latest met v
    → up_to v met ≡ reverse (drop (latest met v - 1) (reverse met))
from_mark [] v lt = absurd (omega arith)
from_mark (r ∷ rs) v lt =
    elim (cases_eq r.var v) [
      | inl s ↦ (
          let at' : latest (r ∷ rs) v - 1 ≡ length (reverse rs) =
          (let l = latest-same r rs v s in omega (arith, l, length-reverse rs)) in
          cond-true (eqb r.var v) (r ∷ []) (r ∷ up_to v rs) (eq-eqb r.var v s)
          ∙ sym (ap reverse (ap (λ l. drop (latest (r ∷ rs) v - 1) l) (reverse-cons r rs)
          ∙ ap (λ k. drop k (reverse rs ++ r ∷ [])) at'
          ∙ drop_at (reverse rs) (r ∷ []) (length (reverse rs)) refl)))
      | inr n ↦ (
          let l : latest (r ∷ rs) v ≡ latest rs v = latest-other r rs v n in
          let small : latest rs v - 1 ≤ length (reverse rs) = omega (arith, latest_in_log rs v, length-reverse rs) in
          let rest : up_to v rs ≡ reverse (drop (latest rs v - 1) (reverse rs)) =
          from_mark rs v (omega (arith, l, lt)) in
          cond-false (eqb r.var v) (r ∷ []) (r ∷ up_to v rs) (ne_eqb r.var v n) ∙ ap (λ x. r ∷ x) rest ∙ sym (
          ap (λ k. reverse (drop (k - 1) (reverse (r ∷ rs)))) l
          ∙ ap (λ x. reverse (drop (latest rs v - 1) x)) (reverse-cons r rs)
          ∙ ap reverse (drop-append-le (latest rs v - 1) (reverse rs) (r ∷ []) small)
          ∙ reverse-append (drop (latest rs v - 1) (reverse rs)) (r ∷ [])))
    ]

-- the loop is found at a raise whose variable is marked
pub loop_found : (met rest : List Entry) (r : Entry) → 0 < latest met r.var → loop_back met (r ∷ rest) ≡ up_to r.var met
loop_found met rest r lt = cond-true (list_any (λ q. eqb q.var r.var) met) (up_to r.var met)
    (loop_back (r ∷ met) rest) (marked met r.var lt)

pub loop_not_yet : (met rest : List Entry) (r : Entry) → latest met r.var ≡ 0
    → loop_back met (r ∷ rest) ≡ loop_back (r ∷ met) rest
loop_not_yet met rest r e = cond-false (list_any (λ q. eqb q.var r.var) met) (up_to r.var met)
    (loop_back (r ∷ met) rest) (unmarked met r.var e)

-- ---- the place of the least

-- the least place is the first one of the least value
least_place_first : (xs : List ℕ) (j : ℕ) → j < least_place xs → get_or xs (least_place xs) 0 < get_or xs j 0
least_place_first [] j lt = absurd (omega arith)
least_place_first (x ∷ xs) zero lt =
    let test : Bool = list_all (λ y. leb x y) xs in
    let P : ℕ → Type 0 = λ k. 0 < k → get_or (x ∷ xs) k 0 < x in
    elim (cases_Bool test) as (λ _. get_or (x ∷ xs) (least_place (x ∷ xs)) 0 < x) [
      | inl t ↦ (let q = subst P (sym (cond-true test 0 (suc (least_place xs)) t)) (λ l. absurd (omega arith)) in q lt)
      | inr f ↦
          (let q = subst P (sym (cond-false test 0 (suc (least_place xs)) f))
          (λ l. let w = list_all-false x xs f in let low = least_place_least xs w.0 w.1 in let b = w.2 in
          omega (arith, low, b)) in q lt)
    ]
least_place_first (x ∷ xs) (suc j) lt =
    let test : Bool = list_all (λ y. leb x y) xs in
    let P : ℕ → Type 0 = λ k. suc j < k → get_or (x ∷ xs) k 0 < get_or xs j 0 in
    elim (cases_Bool test) as (λ _. get_or (x ∷ xs) (least_place (x ∷ xs)) 0 < get_or xs j 0) [
      | inl t ↦ (let q = subst P (sym (cond-true test 0 (suc (least_place xs)) t)) (λ l. absurd (omega arith)) in q lt)
      | inr f ↦
          (let q = subst P (sym (cond-false test 0 (suc (least_place xs)) f))
          (λ l. least_place_first xs j (omega arith)) in q lt)
    ]

pub least_is : (xs : List ℕ) (b : ℕ) → b < length xs → ((j : ℕ) → j < length xs → get_or xs b 0 ≤ get_or xs j 0)
    → ((j : ℕ) → j < b → get_or xs b 0 < get_or xs j 0) → b ≡ least_place xs
least_is xs b lt low first =
    let p : ℕ = least_place xs in
    let inside : p < length xs = least_place_in_range xs (λ e. let l = ap length e in omega (arith, l, lt)) in
    elim (cases_order b p) [
      | inl e ↦ e
      | inr w ↦ elim w as (λ _. b ≡ p) [
        | inl below ↦ absurd (let a = least_place_first xs b below in let c = low p inside in omega (arith, a, c))
        | inr above ↦
            absurd (let a = first p above in let c = least_place_least xs (get_or xs b 0) (In-at xs b 0 lt) in
            omega (arith, a, c))
      ]
    ]

-- the tails of a walk: nothing is left to compare in a walk of at most one edge
pub least_tail_is : (edges : List Edge) (walk : List ℕ) (b i : ℕ) → b < max 1 i → length walk ≤ i
    → i ≤ max 1 (length walk)
    → ((j : ℕ) → j < i → get_or (tails_of edges walk) b 0 ≤ get_or (tails_of edges walk) j 0)
    → ((j : ℕ) → j < b → get_or (tails_of edges walk) b 0 < get_or (tails_of edges walk) j 0)
    → b ≡ least_place (tails_of edges walk)
least_tail_is edges [] b i lt le up low first = omega arith
least_tail_is edges (k ∷ ks) b i lt le up low first =
    let l = length-tails edges (k ∷ ks) in
    least_is (tails_of edges (k ∷ ks)) b (omega (arith, l)) (λ j inside. low j (omega (arith, l, inside))) first

-- ---- one step back

pub record IsBack (vars : ℕ) (rs : List Entry) (n : ℕ) (e : Entry) : Type 0 where
  pub step : IsChainStep rs n e
  pub var : e.var < vars

pub back_at : (vars : ℕ) (entries : List Entry) (n : ℕ) (d : Entry) → AreEntries vars entries → 0 < n
    → n ≤ length (raises_of entries) → IsBack vars (raises_of entries) n (get_or entries n d)
back_at vars entries n d a lt le =
    let P : List Entry → Type 0 = λ es. IsBack vars (raises_of entries) n (get_or es n d) in
    subst P (sym a.entries_are)
    (record {
      step = chain_step vars (raises_of entries) n d a.older lt le;
      var = entry_var vars (raises_of entries) n d a.older lt le;
    })

-- the marks after one more raise
pub marks_more : (vars : ℕ) (met : List ℕ) (path : List Entry) (e : Entry) → length met ≡ vars → e.var < vars
    → ((v : ℕ) → v < vars → get_or met v 0 ≡ latest (reverse path) v) → (v : ℕ) → v < vars
    → get_or (set met e.var (length path + 1)) v 0 ≡ latest (reverse (path ++ e ∷ [])) v
marks_more vars met path e l inside h v lt =
    let turned : reverse (path ++ e ∷ []) ≡ e ∷ reverse path = reverse-append path (e ∷ []) in
    ap (λ x. x)
    (elim (cases_eq v e.var) as (λ _. get_or (set met e.var (length path + 1)) v 0 ≡ latest (e ∷ reverse path) v) [
      | inl s ↦ (
          let here : get_or (set met e.var (length path + 1)) v 0 ≡ length path + 1 =
          ap (λ k. get_or (set met e.var (length path + 1)) k 0) s
          ∙ get_or-set_same met e.var (length path + 1) 0 (omega (arith, l)) in
          let there = latest-same e (reverse path) v (sym s) in
          omega (arith, here, there, length-reverse path))
      | inr n ↦ get_or-set_other met e.var v (length path + 1) 0 n ∙ h v lt
          ∙ sym (latest-other e (reverse path) v (λ q. n (sym q)))
    ]) ∙ ap (λ x. latest x v) (sym turned)

pub path_more : (path : List Entry) (e : Entry) → reverse (path ++ e ∷ []) ≡ e ∷ reverse path
path_more path e = reverse-append path (e ∷ [])

-- a mark is a place in the path
pub mark_low : (path : List Entry) (v m : ℕ) → m ≡ latest (reverse path) v → m ≤ length path
mark_low path v m e = omega (arith, e, latest_in_log (reverse path) v, length-reverse path)

-- the loop from a mark, as the part of the path after it
pub loop_at_mark : (rs path : List Entry) (n m : ℕ) (e : Entry) → IsChainStep rs n e → m ≡ latest (reverse path) e.var
    → 0 < m → loop_back (reverse path) (chain rs n) ≡ reverse (drop (m - 1) path)
loop_at_mark rs path n m e s h lt =
    let on : 0 < latest (reverse path) e.var = omega (arith, h, lt) in
    ap (loop_back (reverse path)) s.chain_is ∙ loop_found (reverse path) (chain rs e.prev) e on
    ∙ from_mark (reverse path) e.var on ∙ ap (λ k. reverse (drop (k - 1) (reverse (reverse path)))) (sym h)
    ∙ ap (λ l. reverse (drop (m - 1) l)) (reverse-reverse path)

pub loop_past : (rs path : List Entry) (n : ℕ) (e : Entry) → IsChainStep rs n e → latest (reverse path) e.var ≡ 0
    → loop_back (reverse (path ++ e ∷ [])) (chain rs e.prev) ≡ loop_back (reverse path) (chain rs n)
loop_past rs path n e s z = ap (λ l. loop_back l (chain rs e.prev)) (path_more path e)
    ∙ sym (loop_not_yet (reverse path) (chain rs e.prev) e z) ∙ ap (loop_back (reverse path)) (sym s.chain_is)
