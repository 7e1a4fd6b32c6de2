-- The chain of a raise: walks from the origin, with values that rise.
use Rattle.std.proofs.Common.{◌≡◌, ℕ, ◌≤◌, ℤ, pos, ◌+ℤ◌, ◌≤ℤ◌, ◌<ℤ◌, eqb, Some, None, List, [], ◌∷◌, ◌++◌, ◌⊎◌, inl}
use Rattle.std.proofs.Common.{inr, length, refl, sym, ap, subst, ◌∙◌, arith, eq-eqb, length-append}
use Rattle.std.proofs.lemmas.{Int.ints, Bool.{cases_eq, ne_eqb, cond-true, cond-false}}
use Rattle.cons_graph.specs.declared.edges.Edge.{Edge}
use Rattle.round_log.specs.{declared.log.Entry.Entry, Looks.{label, latest, chain}}
use Rattle.round_log.proofs.Raises.{IsRaise, IsAtLeast, IsJustified, label_grows, label-same, label-other, latest-same}
use Rattle.round_log.proofs.Raises.{latest-other, latest_in_log}

-- x is an element of the list
abbrev pub In : {X : Type 0} → X → List X → Type 0
In x [] = ⊥
In x (y ∷ ys) = (y ≡ x) ⊎ In x ys

-- ---- where a chain is in the log

pub chain-newest : (r : Entry) (rs : List Entry) (n : ℕ) → n ≡ length (r ∷ rs) → chain (r ∷ rs) n ≡ r ∷ chain rs r.prev
chain-newest r rs n e = cond-true (eqb n (length (r ∷ rs))) (r ∷ chain rs r.prev) (chain rs n)
    (eq-eqb n (length (r ∷ rs)) e)

pub chain-older : (r : Entry) (rs : List Entry) (n : ℕ) → n ≤ length rs → chain (r ∷ rs) n ≡ chain rs n
chain-older r rs n le = cond-false (eqb n (length (r ∷ rs))) (r ∷ chain rs r.prev) (chain rs n)
    (ne_eqb n (length (r ∷ rs)) (λ e. omega arith))

pub chain-append : (new old : List Entry) (n : ℕ) → n ≤ length old → chain (new ++ old) n ≡ chain old n
chain-append [] old n le = refl
chain-append (r ∷ new) old n le = chain-older r (new ++ old) n (omega (arith, length-append new old))
    ∙ chain-append new old n le

pub chain-zero : (rs : List Entry) → chain rs 0 ≡ []
chain-zero [] = refl
chain-zero (r ∷ rs) = chain-older r rs 0 (omega arith) ∙ chain-zero rs

pub In-chain : (q : Entry) (rs : List Entry) (n : ℕ) → In q (chain rs n) → In q rs
In-chain q [] n h = h
In-chain q (r ∷ rs) n h =
    elim (cases_eq n (length (r ∷ rs))) [
      | inl e ↦ elim (let P : List Entry → Type 0 = λ x. In q x in subst P (chain-newest r rs n e) h)
          as (λ _. (r ≡ q) ⊎ In q rs) [ inl s ↦ inl s | inr i ↦ inr (In-chain q rs r.prev i) ]
      | inr ne ↦
          inr (In-chain q rs n (let P : List Entry
          → Type 0 =
          λ x. In q x in subst P
          (cond-false (eqb n (length (r ∷ rs))) (r ∷ chain rs r.prev) (chain rs n) (ne_eqb n (length (r ∷ rs)) ne))
          h))
    ]

-- the chain of a variable's latest raise
abbrev pub trace : List Entry → ℕ → List Entry
trace rs v = chain rs (latest rs v)

pub trace-same : (r : Entry) (rs : List Entry) (v : ℕ) → r.var ≡ v → trace (r ∷ rs) v ≡ r ∷ chain rs r.prev
trace-same r rs v e = chain-newest r rs (latest (r ∷ rs) v) (latest-same r rs v e)

pub trace-other : (r : Entry) (rs : List Entry) (v : ℕ) → (r.var ≡ v → ⊥) → trace (r ∷ rs) v ≡ trace rs v
trace-other r rs v n = ap (chain (r ∷ rs)) (latest-other r rs v n) ∙ chain-older r rs (latest rs v) (latest_in_log rs v)

-- ---- chains are walks

-- the variable and the value at the newest end of a chain
abbrev pub top_var : List Entry → ℕ
top_var [] = 0
top_var (c ∷ cs) = c.var

abbrev pub top_value : List Entry → ℤ
top_value [] = pos 0
top_value (c ∷ cs) = c.value

-- each entry's edge leads from the variable before to its own, and its value is the one before plus the edge's length
pub record IsLink (edge : ℕ → Edge) (c : Entry) (cs : List Entry) : Type 0 where
  pub head_is : (edge c.edge).to ≡ c.var
  pub tail_is : (edge c.edge).from ≡ top_var cs
  pub value_is : c.value ≡ top_value cs +ℤ (edge c.edge).len

abbrev pub IsLinked : (ℕ → Edge) → List Entry → Type 0
IsLinked edge [] = Unit {0}
IsLinked edge (c ∷ cs) = IsLink edge c cs × IsLinked edge cs

pub record IsTraced (edge : ℕ → Edge) (cs : List Entry) (v : ℕ) (a : ℤ) : Type 0 where
  pub linked : IsLinked edge cs
  pub var_is : top_var cs ≡ v
  pub value_is : top_value cs ≡ a

-- the chain that a raise comes from is the trace of its edge's tail
pub chain_is_trace : (edge : ℕ → Edge) (rs : List Entry) (r : Entry) → IsRaise edge rs r.edge r
    → chain rs r.prev ≡ trace rs (edge r.edge).from
chain_is_trace edge rs r m = ap (chain rs) m.prev_is

some_same : (a b : ℤ) → Some a ≡ Some b → a ≡ b
some_same a b e = cc

trace_start : (edge : ℕ → Edge) (v : ℕ) (a : ℤ) → label [] v ≡ Some a → IsTraced edge [] v a
trace_start edge v a l =
    elim (cases_eq v 0) [
      | inl e ↦
          record {
            linked = tt;
            var_is = sym e;
            value_is = some_same (pos 0) a (sym (cond-true (eqb v 0) (Some (pos 0)) None (eq-eqb v 0 e)) ∙ l);
          }
      | inr n ↦ absurd (let w : None ≡ Some a = sym (cond-false (eqb v 0) (Some (pos 0)) None (ne_eqb v 0 n)) ∙ l in cc)
    ]

pub trace_is : (edge : ℕ → Edge) (rs : List Entry) (v : ℕ) (a : ℤ) → IsJustified edge rs → label rs v ≡ Some a
    → IsTraced edge (trace rs v) v a
trace_is edge [] v a j l = trace_start edge v a l
trace_is edge (r ∷ rs) v a j l =
    let m = j.0 in
    let P : List Entry → Type 0 = λ cs. IsTraced edge cs v a in
    elim (cases_eq r.var v) [
      | inl e ↦
          let before : IsTraced edge (trace rs (edge r.edge).from) (edge r.edge).from m.tail =
          trace_is edge rs (edge r.edge).from m.tail j.1 m.tail_is in
          let Q : List Entry → Type 0 = λ cs. IsTraced edge cs (edge r.edge).from m.tail in
          let here : IsTraced edge (chain rs r.prev) (edge r.edge).from m.tail =
          subst Q (sym (chain_is_trace edge rs r m)) before in
          subst P (sym (trace-same r rs v e)) (record {
            linked = (
              record {
                head_is = sym m.var_is;
                tail_is = sym here.var_is;
                value_is = m.value_is
                    ∙ ap (λ x. x +ℤ (edge r.edge).len) (sym here.value_is);
              },
              here.linked,
            );
            var_is = e;
            value_is = some_same r.value a (sym (label-same r rs v e) ∙ l);
          })
      | inr n ↦ subst P (sym (trace-other r rs v n)) (trace_is edge rs v a j.1 (sym (label-other r rs v n) ∙ l))
    ]

-- the chain after a raise, with the raise on top
pub raise_linked : (edge : ℕ → Edge) (rs : List Entry) (r : Entry) → IsRaise edge rs r.edge r → IsJustified edge rs
    → IsLinked edge (r ∷ chain rs r.prev)
raise_linked edge rs r m j =
    let Q : List Entry → Type 0 = λ cs. IsTraced edge cs (edge r.edge).from m.tail in
    let here : IsTraced edge (chain rs r.prev) (edge r.edge).from m.tail =
    subst Q (sym (chain_is_trace edge rs r m)) (trace_is edge rs (edge r.edge).from m.tail j m.tail_is) in (
      record {
        head_is = sym m.var_is;
        tail_is = sym here.var_is;
        value_is = m.value_is
            ∙ ap (λ x. x +ℤ (edge r.edge).len) (sym here.value_is);
      },
      here.linked,
    )

-- ---- values of one variable rise

-- a variable's label is at least the value of each of its raises
pub in_log_low : (edge : ℕ → Edge) (rs : List Entry) (q : Entry) → IsJustified edge rs → In q rs
    → IsAtLeast (label rs q.var) q.value
in_log_low edge [] q j i = absurd i
in_log_low edge (r ∷ rs) q j i =
    elim i as (λ _. IsAtLeast (label (r ∷ rs) q.var) q.value) [
      | inl e ↦
          record {
            now = r.value;
            is = label-same r rs q.var (ap (λ x. x.var) e);
            at_least = let s : r.value ≡ q.value = ap (λ x. x.value) e in omega (arith, ints);
          }
      | inr h ↦
          let before : IsAtLeast (label rs q.var) q.value = in_log_low edge rs q j.1 h in
          let after : IsAtLeast (label (r ∷ rs) q.var) before.now =
          label_grows edge rs r.edge r q.var before.now j.0 before.is in
          record {
            now = after.now;
            is = after.is;
            at_least = let p : q.value ≤ℤ before.now = before.at_least in let q' : before.now ≤ℤ after.now =
                after.at_least in omega (arith, ints);
          }
    ]

-- each entry's value is greater than those of the older entries of its variable
abbrev pub IsRising : List Entry → Type 0
IsRising [] = Unit {0}
IsRising (c ∷ cs) = ((q : Entry) → In q cs → q.var ≡ c.var → q.value <ℤ c.value) × IsRising cs

-- a raise is above all older ones of its variable
pub raise_above : (edge : ℕ → Edge) (rs : List Entry) (r q : Entry) → IsRaise edge rs r.edge r → IsJustified edge rs
    → In q rs → q.var ≡ r.var → q.value <ℤ r.value
raise_above edge rs r q m j i e =
    let low : IsAtLeast (label rs q.var) q.value = in_log_low edge rs q j i in
    let P : ℕ → Type 0 = λ v. label rs v ≡ Some low.now in
    let lt : low.now <ℤ r.value = m.higher low.now (subst P (e ∙ m.var_is) low.is) in
    let le : q.value ≤ℤ low.now = low.at_least in
    omega (arith, ints)

pub chain_rising : (edge : ℕ → Edge) (rs : List Entry) (n : ℕ) → IsJustified edge rs → IsRising (chain rs n)
chain_rising edge [] n j = tt
chain_rising edge (r ∷ rs) n j =
    let P : List Entry → Type 0 = λ cs. IsRising cs in
    elim (cases_eq n (length (r ∷ rs))) [
      | inl e ↦ subst P (sym (chain-newest r rs n e))
          (λ q i s. raise_above edge rs r q j.0 j.1 (In-chain q rs r.prev i) s, chain_rising edge rs r.prev j.1)
      | inr ne ↦
          subst P (sym
          (cond-false (eqb n (length (r ∷ rs))) (r ∷ chain rs r.prev) (chain rs n)
          (ne_eqb n (length (r ∷ rs)) ne))) (chain_rising edge rs n j.1)
    ]

pub raise_rising : (edge : ℕ → Edge) (rs : List Entry) (r : Entry) → IsRaise edge rs r.edge r → IsJustified edge rs
    → IsRising (r ∷ chain rs r.prev)
raise_rising edge rs r m j =
    (λ q i s. raise_above edge rs r q m j (In-chain q rs r.prev i) s, chain_rising edge rs r.prev j)
