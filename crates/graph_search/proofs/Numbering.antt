-- The numbers of parts by the marks that searches leave.
use Rattle.std.proofs.Common.{◌≡◌, ℕ, ◌+◌, ◌<◌, ◌≤◌, Option, Some, List, [], ◌∷◌, ◌++◌, length, take, get_or, inl, inr}
use Rattle.std.proofs.{Common.{refl, sym, ◌∙◌, ap, subst, arith}, lemmas.List.{length_push, get_or_append_left}}
use Rattle.std.proofs.lemmas.{List.{get_or_push, take-append-le, take_at, Sums.fold_push}, Option.same_Some}
use Rattle.std.specs.Prelude.{max}
use Rattle.graph_search.specs.{Netting.{IsNumberedInOrder, Reaches, next_net}, Search.{mark_of, AreKept, AreWhole}}
use Rattle.graph_search.proofs.{Marks.below_cases, Spreading.whole_reaches}

-- the numbers of the first parts, and how many numbers there are
pub record IsNumbering (Beside : ℕ → ℕ → Type 0) (marks : List (Option ℕ)) (nets : List ℕ) (count : ℕ) : Type 0 where
  pub whole : AreWhole Beside count marks
  pub passed : (k : ℕ) → k < length nets → mark_of marks k ≡ Some (get_or nets k 0)
  pub next : count ≡ next_net nets
  pub in_order : IsNumberedInOrder nets
  pub few : count ≤ length nets

pub numbering_none : (Beside : ℕ → ℕ → Type 0) (marks : List (Option ℕ)) (nets : List ℕ) → AreWhole Beside 0 marks
    → nets ≡ [] → IsNumbering Beside marks nets 0
numbering_none Beside marks nets w e =
    let P : List ℕ → Type 0 = λ ns. IsNumbering Beside marks ns 0 in
    subst P (sym e)
    (record {
      whole = w;
      passed = λ k lt. absurd (omega arith);
      next = refl;
      in_order = λ k lt. absurd (omega arith);
      few = omega arith;
    })

in_order_push : (nets : List ℕ) (net : ℕ) → IsNumberedInOrder nets → net ≤ next_net nets
    → IsNumberedInOrder (nets ++ net ∷ [])
in_order_push nets net ordered le = λ k lt.
    let l = length_push nets net in
    elim (below_cases k (length nets) (omega arith)) [
      | inl before ↦
          (let P : ℕ → Type 0 = λ x. x ≤ next_net (take k (nets ++ net ∷ [])) in
          let Q : List ℕ → Type 0 = λ xs. get_or nets k 0 ≤ next_net xs in
          subst P (sym (get_or_append_left nets (net ∷ []) 0 k before))
          (subst Q (sym (take-append-le k nets (net ∷ []) (omega arith))) (ordered k before)))
      | inr e ↦
          (let P : ℕ → Type 0 = λ x. x ≤ next_net (take k (nets ++ net ∷ [])) in
          let Q : List ℕ → Type 0 = λ xs. net ≤ next_net xs in
          subst P (sym (get_or_push nets net 0 k (sym e))) (subst Q (sym (take_at nets (net ∷ []) k (sym e))) le))
    ]

-- one more part
pub numbering_more : (Beside : ℕ → ℕ → Type 0) (old new : List (Option ℕ)) (nets : List ℕ) (count net : ℕ)
    → IsNumbering Beside old nets count
    → AreKept old new → mark_of new (length nets) ≡ Some net → AreWhole Beside (max count (net + 1)) new → net ≤ count
    → IsNumbering Beside new (nets ++ net ∷ []) (max count (net + 1))
numbering_more Beside old new nets count net h kept here whole le =
    let l = length_push nets net in
    record {
      whole = whole;
      passed = λ k lt. elim (below_cases k (length nets) (omega arith)) [
        | inl before ↦ kept k (get_or nets k 0) (h.passed k before)
            ∙ ap (λ (x : ℕ). Some x) (sym (get_or_append_left nets (net ∷ []) 0 k before))
        | inr e ↦ ap (mark_of new) e ∙ here ∙ ap (λ (x : ℕ). Some x) (sym (get_or_push nets net 0 k (sym e)))
      ];
      next = ap (λ (x : ℕ). max x (net + 1)) h.next ∙ sym (fold_push (λ (next n : ℕ). max next (n + 1)) 0 nets net);
      in_order = in_order_push nets net h.in_order (let n = h.next in omega arith);
      few = (let f = h.few in omega arith);
    }

-- equal numbers are of parts that reach one another
pub numbering_joined : (Beside : ℕ → ℕ → Type 0) (marks : List (Option ℕ)) (nets : List ℕ) (count a b : ℕ)
    → IsNumbering Beside marks nets count → a < length nets → b < length nets
    → get_or nets a 0 ≡ get_or nets b 0 → Reaches Beside a b
numbering_joined Beside marks nets count a b h la lb e =
    h.whole.joined a b (get_or nets a 0) (h.passed a la) (h.passed b lb ∙ ap (λ (x : ℕ). Some x) (sym e))

-- and parts that one reaches have its number
pub numbering_same : (Beside : ℕ → ℕ → Type 0) (marks : List (Option ℕ)) (nets : List ℕ) (count a b : ℕ)
    → IsNumbering Beside marks nets count → a < length nets → b < length nets
    → Reaches Beside a b → get_or nets a 0 ≡ get_or nets b 0
numbering_same Beside marks nets count a b h la lb r =
    sym (same_Some (get_or nets b 0) (get_or nets a 0)
    (sym (h.passed b lb) ∙ whole_reaches Beside count marks a b (get_or nets a 0) h.whole r (h.passed a la)))
