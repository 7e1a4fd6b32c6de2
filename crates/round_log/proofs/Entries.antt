-- The entries of a log as an array, oldest first: which entry a number names, labels by the latest entries, and one
-- step along a chain.
use Rattle.std.proofs.Common.{◌≡◌, ℕ, suc, ◌<◌, ◌≤◌, Some, List, [], ◌∷◌, ◌++◌, reverse, inl, inr, length, get_or, refl}
use Rattle.std.proofs.Common.{sym, ap, subst, ◌∙◌, arith}
use Rattle.std.proofs.lemmas.{Bool.cases_eq, List.{length-reverse, get_or_append_left, get_or_push}}
use Rattle.round_log.specs.{declared.log.Entry.Entry, Looks.{label, latest, chain}, Logs.{origin_entry, ComeFromOlder}}
use Rattle.round_log.proofs.Raises.{label-same, label-other, latest-same, latest-other, latest_in_log}
use Rattle.round_log.proofs.{Chains.{chain-newest, chain-older}, Walking.reverse-cons}

-- the array of a log: the origin's entry and the raises from the oldest on
abbrev pub array_of : List Entry → List Entry
array_of rs = origin_entry ∷ reverse rs

pub length-array : (rs : List Entry) → length (array_of rs) ≡ suc (length rs)
length-array rs = ap suc (length-reverse rs)

array-cons : (r : Entry) (rs : List Entry) → array_of (r ∷ rs) ≡ array_of rs ++ r ∷ []
array-cons r rs = ap (λ l. origin_entry ∷ l) (reverse-cons r rs)

pub entry-newest : (r : Entry) (rs : List Entry) (d : Entry) → get_or (array_of (r ∷ rs)) (length (r ∷ rs)) d ≡ r
entry-newest r rs d = ap (λ l. get_or l (length (r ∷ rs)) d) (array-cons r rs)
    ∙ get_or_push (array_of rs) r d (length (r ∷ rs)) (length-array rs)

pub entry-older : (r : Entry) (rs : List Entry) (n : ℕ) (d : Entry) → n ≤ length rs
    → get_or (array_of (r ∷ rs)) n d ≡ get_or (array_of rs) n d
entry-older r rs n d le = ap (λ l. get_or l n d) (array-cons r rs)
    ∙ get_or_append_left (array_of rs) (r ∷ []) d n (omega (arith, length-array rs))

-- a label is the value of the variable's latest entry
pub label_by_latest : (rs : List Entry) (v : ℕ) (d : Entry) → 1 ≤ latest rs v
    → label rs v ≡ Some (get_or (array_of rs) (latest rs v) d).value
label_by_latest [] v d le = absurd (omega arith)
label_by_latest (r ∷ rs) v d le =
    elim (cases_eq r.var v) [
      | inl e ↦ label-same r rs v e
          ∙ ap (λ x. Some x.value)
          (sym (ap (λ n. get_or (array_of (r ∷ rs)) n d) (latest-same r rs v e) ∙ entry-newest r rs d))
      | inr n ↦ (
          let same : latest (r ∷ rs) v ≡ latest rs v = latest-other r rs v n in
          let there : get_or (array_of (r ∷ rs)) (latest (r ∷ rs) v) d ≡ get_or (array_of rs) (latest rs v) d =
          ap (λ k. get_or (array_of (r ∷ rs)) k d) same ∙ entry-older r rs (latest rs v) d (latest_in_log rs v) in
          label-other r rs v n ∙ label_by_latest rs v d (omega (arith, same)) ∙ ap (λ x. Some x.value) (sym there))
    ]

pub label_without_latest : (rs : List Entry) (v : ℕ) → latest rs v ≡ 0 → label rs v ≡ label [] v
label_without_latest [] v e = refl
label_without_latest (r ∷ rs) v e =
    elim (cases_eq r.var v) [
      | inl s ↦ absurd (let n = latest-same r rs v s in omega (arith, e, n))
      | inr n ↦ label-other r rs v n ∙ label_without_latest rs v (sym (latest-other r rs v n) ∙ e)
    ]

-- a chain goes from an entry to the one that it names
pub record IsChainStep (rs : List Entry) (n : ℕ) (e : Entry) : Type 0 where
  pub chain_is : chain rs n ≡ e ∷ chain rs e.prev
  pub older : e.prev < n

pub chain_step : (vars : ℕ) (rs : List Entry) (n : ℕ) (d : Entry) → ComeFromOlder vars rs → 1 ≤ n → n ≤ length rs
    → IsChainStep rs n (get_or (array_of rs) n d)
chain_step vars [] n d h a b = absurd (omega arith)
chain_step vars (r ∷ rs) n d h a b =
    let P : Entry → Type 0 = λ e. IsChainStep (r ∷ rs) n e in
    elim (cases_eq n (length (r ∷ rs))) [
      | inl e ↦ (
          let this : get_or (array_of (r ∷ rs)) n d ≡ r = ap (λ k. get_or (array_of (r ∷ rs)) k d) e
          ∙ entry-newest r rs d in
          let low : r.prev ≤ length rs = h.1 in
          subst P (sym this)
          (record {
            chain_is = chain-newest r rs n e ∙ ap (λ l. r ∷ l) (sym (chain-older r rs r.prev low));
            older = omega arith;
          }))
      | inr ne ↦ (
          let small : n ≤ length rs = omega arith in
          let before : IsChainStep rs n (get_or (array_of rs) n d) = chain_step vars rs n d h.2 a small in
          let x : Entry = get_or (array_of rs) n d in
          let low : x.prev < n = before.older in
          subst P (sym (entry-older r rs n d small))
          (record {
            chain_is = chain-older r rs n small ∙ before.chain_is
                ∙ ap (λ l. x ∷ l) (sym (chain-older r rs x.prev (omega arith)));
            older = before.older;
          }))
    ]

-- an entry past the origin's is of one of the variables
pub entry_var : (vars : ℕ) (rs : List Entry) (n : ℕ) (d : Entry) → ComeFromOlder vars rs → 1 ≤ n → n ≤ length rs
    → (get_or (array_of rs) n d).var < vars
entry_var vars [] n d h a b = absurd (omega arith)
entry_var vars (r ∷ rs) n d h a b =
    let P : Entry → Type 0 = λ e. e.var < vars in
    elim (cases_eq n (length (r ∷ rs))) [
      | inl e ↦ subst P (sym (ap (λ k. get_or (array_of (r ∷ rs)) k d) e ∙ entry-newest r rs d)) h.0
      | inr ne ↦
          (let small : n ≤ length rs = omega arith in subst P (sym (entry-older r rs n d small))
          (entry_var vars rs n d h.2 a small))
    ]
