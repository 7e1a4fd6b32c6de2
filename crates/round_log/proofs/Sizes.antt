-- How large labels get: a chain has few backward raises, and goes up in the order between them.
use Rattle.std.proofs.Common.{◌≡◌, ℕ, suc, ◌+◌, ◌*◌, ◌-◌, ◌<◌, ◌≤◌, ◌^◌, ℤ, pos, neg_ℤ, ◌+ℤ◌, ◌≤ℤ◌, Bool, false, eqb}
use Rattle.std.proofs.Common.{Some, None, List, [], ◌∷◌, inl, inr, length, sym, ap, subst, ◌∙◌, arith}
use Rattle.std.proofs.Math.Nat.{mul-le-mul_left, mul-le-mul_right}
use Rattle.std.proofs.lemmas.{Int.ints, Bool.{cond-true, cond-false, cases_Bool, cases_eq, eqb-true}}
use Rattle.cons_graph.specs.{declared.edges.Edge.Edge, Constraints.IsEdgeAmong}
use Rattle.round_log.specs.{declared.log.Entry.Entry, Looks.{label, chain}}
use Rattle.round_log.proofs.{Raises.{IsRaise, label-same, label-other}, Chains.{trace, trace-same, trace-other}}
use Rattle.round_log.proofs.{Chains.chain_is_trace, Depths.{depth, depth_of, depth_back, depth_grows}, Parts.IsLog}

-- a number within n times the greatest length of 0
pub record IsWithin (n : ℕ) (a : ℤ) : Type 0 where
  pub low : neg_ℤ (pos (2 ^ 21 * n)) ≤ℤ a
  pub high : a ≤ℤ pos (2 ^ 21 * n)

within_more : (n : ℕ) (a b len : ℤ) → IsWithin n a → neg_ℤ (pos (2 ^ 21)) ≤ℤ len → len ≤ℤ pos (2 ^ 21) → b ≡ a +ℤ len
    → IsWithin (suc n) b
within_more n a b len w p q e =
    let l : neg_ℤ (pos (2 ^ 21 * n)) ≤ℤ a = w.low in
    let h : a ≤ℤ pos (2 ^ 21 * n) = w.high in
    record { low = omega (arith, ints); high = omega (arith, ints) }

-- a label is at most the length of its chain times the greatest length of an edge
pub label_within : (edge : ℕ → Edge) (back : ℕ → Bool) (m vars : ℕ) (rs : List Entry) → IsLog edge back m rs
    → ((k : ℕ) → k < m → IsEdgeAmong vars (edge k)) → (v : ℕ) (a : ℤ) → label rs v ≡ Some a
    → IsWithin (length (trace rs v)) a
label_within edge back m vars [] l h v a e =
    elim (cases_eq v 0) [
      | inl s ↦
          let w : Some (pos 0) ≡ Some a = sym (cond-true (eqb v 0) (Some (pos 0)) None (ap (λ u. eqb u 0) s)) ∙ e in
          let p : pos 0 ≡ a = cc in
          record { low = omega (arith, ints); high = omega (arith, ints) }
      | inr n ↦
          absurd (let w : None ≡ Some a = sym
          (cond-false (eqb v 0) (Some (pos 0)) None
          (elim (cases_Bool (eqb v 0)) [ inl t ↦ absurd (n (eqb-true v 0 t)) | inr f ↦ f ])) ∙ e in cc)
    ]
label_within edge back m vars (r ∷ rs) l h v a e =
    let i : IsRaise edge rs r.edge r = l.0.raise in
    let P : List Entry → Type 0 = λ cs. IsWithin (length cs) a in
    elim (cases_eq r.var v) [
      | inl s ↦
          let w : Some r.value ≡ Some a = sym (label-same r rs v s) ∙ e in
          let p : r.value ≡ a = cc in
          let Q : List Entry → Type 0 = λ cs. IsWithin (length cs) i.tail in
          let tail : IsWithin (length (chain rs r.prev)) i.tail =
          subst Q (sym (chain_is_trace edge rs r i))
          (label_within edge back m vars rs l.1 h (edge r.edge).from i.tail i.tail_is) in
          let among : IsEdgeAmong vars (edge r.edge) = h r.edge l.0.among in
          subst P (sym (trace-same r rs v s))
          (within_more (length (chain rs r.prev)) i.tail a (edge r.edge).len tail among.length_low
          among.length_high (sym p ∙ i.value_is))
      | inr n ↦ subst P (sym (trace-other r rs v n))
          (label_within edge back m vars rs l.1 h v a (sym (label-other r rs v n) ∙ e))
    ]

-- a chain goes up in the order from one backward raise to the next
pub length_by_depth : (edge : ℕ → Edge) (back : ℕ → Bool) (place : ℕ → ℕ) (m vars : ℕ) (rs : List Entry)
    → IsLog edge back m rs → ((k : ℕ) → k < m → place (edge k).from < vars)
    → ((k : ℕ) → k < m → back k ≡ false → place (edge k).from < place (edge k).to) → (v : ℕ)
    → length (trace rs v) ≤ depth back (trace rs v) * vars + place v
length_by_depth edge back place m vars [] l h f v = omega arith
length_by_depth edge back place m vars (r ∷ rs) l h f v =
    let i : IsRaise edge rs r.edge r = l.0.raise in
    let P : List Entry → Type 0 = λ cs. length cs ≤ depth back cs * vars + place v in
    elim (cases_eq r.var v) [
      | inl s ↦
          let Q : List Entry → Type 0 = λ cs. length cs ≤ depth back cs * vars + place (edge r.edge).from in
          let before : length (chain rs r.prev) ≤ depth back (chain rs r.prev) * vars + place (edge r.edge).from =
          subst Q (sym (chain_is_trace edge rs r i))
          (length_by_depth edge back place m vars rs l.1 h f (edge r.edge).from) in
          let to_v : place (edge r.edge).to ≡ place v = ap place (sym i.var_is ∙ s) in
          subst P (sym (trace-same r rs v s)) (elim (cases_Bool (back r.edge)) [
            | inl b ↦
                let one : depth_of back rs r ≡ suc (depth back (chain rs r.prev)) = depth_back back rs r b in
                let D : ℕ → Type 0 = λ d. suc (length (chain rs r.prev)) ≤ d * vars + place v in
                let low : place (edge r.edge).from < vars = h r.edge l.0.among in
                subst D (sym one) (omega arith)
            | inr n ↦
                let up : place (edge r.edge).from < place (edge r.edge).to = f r.edge l.0.among n in
                let grown : depth back (chain rs r.prev) ≤ depth_of back rs r = depth_grows back rs r in
                omega (arith, mul-le-mul_left vars grown)
          ])
      | inr n ↦ subst P (sym (trace-other r rs v n)) (length_by_depth edge back place m vars rs l.1 h f v)
    ]

-- a label is within 2^55 of 0
pub small : (vars d p n : ℕ) (a : ℤ) → vars ≤ 2 ^ 17 → 1 ≤ vars → d ≤ vars - 1 → p < vars → n ≤ d * vars + p
    → IsWithin n a → (neg_ℤ (pos (2 ^ 55)) ≤ℤ a) × (a ≤ℤ pos (2 ^ 55))
small vars d p n a v o dv pv nd w =
    let few : d ≤ 131071 = omega arith in
    let prod : d * vars ≤ 131071 * vars = mul-le-mul_right vars few in
    let steps : n ≤ 2 ^ 34 = omega (arith, prod) in
    let low : neg_ℤ (pos (2 ^ 21 * n)) ≤ℤ a = w.low in
    let high : a ≤ℤ pos (2 ^ 21 * n) = w.high in
    (omega (arith, ints), omega (arith, ints))
