-- What reading the arrays of a working log gives.
use Rattle.std.proofs.Common.{◌≡◌, ℕ, ◌<◌, ◌≤◌, pos, true, eqb, ◌||◌, Some, None, List, inl, inr, length, get_or, sym}
use Rattle.std.proofs.{Common.{ap, subst, ◌∙◌, arith, ℤ, neg_ℤ, ◌^◌, unwrap_or}, lemmas.Bool.{cases_eq, cond-true}}
use Rattle.std.proofs.lemmas.{Bool.{cond-false, ne_eqb, eq-eqb, or_left}, List.{get_or_read, get_or_default}}
use Rattle.std.specs.List.{list_any}
use Rattle.round_log.specs.{declared.log.Entry.Entry, Looks.{label, latest, chain}, Logs.origin_entry}
use Rattle.round_log.proofs.{Raises.latest_in_log, Entries.{array_of, length-array, label_by_latest}}
use Rattle.round_log.proofs.Entries.{label_without_latest, IsChainStep, chain_step}
use Rattle.liao_wong.specs.Held.{AreArraysOf, AreLogArrays}

-- ---- what reading the arrays gives

-- what `last` has at a variable
pub latest_read : (vars : ℕ) (entries : List Entry) (last : List ℕ) (rs : List Entry) (v n : ℕ)
    → AreArraysOf vars entries last rs → v < vars → n ≡ get_or last v n → n ≡ latest rs v
latest_read vars entries last rs v n a lt e =
    get_or_read last v n (let l = a.one_last_each in omega (arith, l, lt)) e 0 ∙ a.last_are v lt

pub latest_low : (vars : ℕ) (entries : List Entry) (last : List ℕ) (rs : List Entry) (v n : ℕ)
    → AreArraysOf vars entries last rs → v < vars → n ≡ get_or last v n → n ≤ length rs
latest_low vars entries last rs v n a lt e =
    (let s = latest_read vars entries last rs v n a lt e in omega (arith, s, latest_in_log rs v))

-- the array has an entry of each number of the log
pub in_entries : (vars : ℕ) (entries : List Entry) (last : List ℕ) (rs : List Entry) (n : ℕ)
    → AreArraysOf vars entries last rs → n ≤ length rs → n < length entries
in_entries vars entries last rs n a le = (let l = ap length a.entries_are in omega (arith, l, le, length-array rs))

pub label_missing : (vars : ℕ) (entries : List Entry) (last : List ℕ) (rs : List Entry) (v n : ℕ)
    → AreArraysOf vars entries last rs → v < vars → n ≡ get_or last v n → n ≡ 0 → (v ≡ 0 → ⊥) → None ≡ label rs v
label_missing vars entries last rs v n a lt e z nz =
    sym (label_without_latest rs v (sym (latest_read vars entries last rs v n a lt e) ∙ z)
    ∙ cond-false (eqb v 0) (Some (pos 0)) None (ne_eqb v 0 nz))

pub label_found : (vars : ℕ) (entries : List Entry) (last : List ℕ) (rs : List Entry) (v n : ℕ) (e : Entry)
    → AreArraysOf vars entries last rs → v < vars → n ≡ get_or last v n → (n ≡ 0 → v ≡ 0) → e ≡ get_or entries n e
    → Some e.value ≡ label rs v
label_found vars entries last rs v n e a lt h z r =
    let here : n ≡ latest rs v = latest_read vars entries last rs v n a lt h in
    let inside : n < length entries =
    in_entries vars entries last rs n a (latest_low vars entries last rs v n a lt h) in
    let read : e ≡ get_or (array_of rs) n e = r ∙ ap (λ l. get_or l n e) a.entries_are in
    elim (cases_eq n 0) [
      | inl s ↦ (
          let first : e ≡ origin_entry = read ∙ ap (λ k. get_or (array_of rs) k e) s in
          ap (λ x. Some x.value) first
          ∙ sym (label_without_latest rs v (sym here ∙ s)
          ∙ cond-true (eqb v 0) (Some (pos 0)) None (eq-eqb v 0 (z s))))
      | inr ne ↦ ap (λ x. Some x.value) (read ∙ ap (λ k. get_or (array_of rs) k e) here)
          ∙ sym (label_by_latest rs v e (omega arith))
    ]

-- the label of a variable that has one
pub label_read : (entries : List Entry) (last : List ℕ) (values : List ℤ) (rs : List Entry) (v n : ℕ) (x : ℤ)
    → AreLogArrays entries last values rs → v < length last → n ≡ get_or last v n → (n ≡ 0 → v ≡ 0)
    → x ≡ get_or values v x → Some x ≡ label rs v
label_read entries last values rs v n x a lt h z r =
    let vars : ℕ = length last in
    let one_each = a.labels.one_each in
    let inside : n < length entries =
    in_entries vars entries last rs n a.arrays (latest_low vars entries last rs v n a.arrays lt h) in
    let e : Entry = get_or entries n origin_entry in
    let found : Some e.value ≡ label rs v = label_found vars entries last rs v n e a.arrays lt h z
    (get_or_default entries n origin_entry e inside) in
    let read : x ≡ get_or values v (pos 0) = r ∙ get_or_default values v x (pos 0) (omega (arith, one_each, lt)) in
    ap (λ y. Some y) (read ∙ a.labels.are v lt
    ∙ ap (λ o. unwrap_or o (neg_ℤ (pos (2 ^ 63)))) (sym found)) ∙ found

-- the next entry of a chain
pub chain_read : (vars : ℕ) (entries : List Entry) (last : List ℕ) (rs : List Entry) (n : ℕ) (e : Entry)
    → AreArraysOf vars entries last rs → 1 ≤ n → n ≤ length rs → e ≡ get_or entries n e → IsChainStep rs n e
chain_read vars entries last rs n e a one le r =
    let P : Entry → Type 0 = λ x. IsChainStep rs n x in
    subst P (sym (r ∙ ap (λ l. get_or l n e) a.entries_are)) (chain_step vars rs n e a.older one le)

-- ---- the search of a variable in a chain

pub found_in_chain : (rs : List Entry) (n v : ℕ) (e : Entry) → IsChainStep rs n e → e.var ≡ v
    → list_any (λ q. eqb q.var v) (chain rs n) ≡ true
found_in_chain rs n v e s same = ap (list_any (λ q. eqb q.var v)) s.chain_is
    ∙ or_left (eqb e.var v) (list_any (λ q. eqb q.var v) (chain rs e.prev)) (eq-eqb e.var v same)

pub not_found_yet : (rs : List Entry) (n v : ℕ) (e : Entry) → IsChainStep rs n e → (e.var ≡ v → ⊥)
    → list_any (λ q. eqb q.var v) (chain rs e.prev) ≡ list_any (λ q. eqb q.var v) (chain rs n)
not_found_yet rs n v e s other =
    sym (ap (list_any (λ q. eqb q.var v)) s.chain_is
    ∙ ap (λ b. b || list_any (λ q. eqb q.var v) (chain rs e.prev)) (ne_eqb e.var v other))
