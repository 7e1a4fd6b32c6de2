use Rattle.std.proofs.Common.{◌≡◌, ℕ, ◌^◌, ◌<◌, ◌≤◌, inl, inr, ℤ, pos, neg_ℤ, ◌≤ℤ◌, Some, Ok, Err, Result, List, []}
use Rattle.std.proofs.{Common.{◌∷◌, length, get_or, ap, subst, arith}, lemmas.{Int.ints, Bool.cases_eq}}
use Rattle.std.specs.Prelude.{IfOk, slice_get}
use Rattle.cons_graph.specs.Solutions.{value_of}
use Rattle.round_log.specs.Orders.{NamesEachOnce, IsOrder}
use Rattle.liao_wong.specs.Sorted.{Precedes, IsInOrderOf}
use Rattle.edit_session.proofs.solving.order_near.Goals as goal

both : {T E : Type 0} (r : Result T E) (P Q R : T → Type 0) → ((x : T) → P x → Q x → R x) → IfOk r P → IfOk r Q
    → IfOk r R
both (Ok x) P Q R f p q = f x p q
both (Err e) P Q R f p q = tt

first_is : (order : List ℕ) → 0 < length order → get_or order 0 0 ≡ 0 → slice_get order 0 ≡ Some 0
first_is [] lt e = absurd (omega arith)
first_is (a ∷ order) lt e = ap (λ n. Some n) e

-- the variable of the least value comes first
origin_first : (n : ℕ) (x : ℕ → ℤ) (order : List ℕ) → 1 ≤ n → ((u : ℕ) → u < n → x 0 ≤ℤ x u) → NamesEachOnce n order
    → IsInOrderOf x order → IsOrder n order
origin_first n x order some least names sorted =
    let w = names.each 0 some in
    let at : get_or order w.0 0 ≡ 0 = w.2 in
    record {
      names = names;
      origin_first = elim (cases_eq w.0 0) as (λ _. slice_get order 0 ≡ Some 0) [
        | inl e ↦
            (let P : ℕ → Type 0 = λ k. get_or order k 0 ≡ 0 in let lt = w.1 in first_is order (omega (arith, lt))
            (subst P e at))
        | inr d ↦
            let u : ℕ = get_or order 0 0 in
            let lt = w.1 in
            let inside : u < n = names.in_range 0 0 (omega (arith, lt)) in
            let le : x 0 ≤ℤ x u = least u inside in
            let P : ℕ → Type 0 = λ v. Precedes x u v in
            let p : Precedes x u 0 = subst P at (sorted 0 w.0 0 (omega arith) lt) in
            elim p as (λ _. slice_get order 0 ≡ Some 0) [
              | inl less ↦ absurd (omega (arith, ints))
              | inr same ↦ absurd (let z = same.1 in omega (arith, z))
            ]
      ];
    }

pub returns : goal.returns
returns c =
    let values : List ℤ = c.loop-v.values.items in
    let h = c.loop-v.invariant in
    let count : length values ≡ c.args.vars =
    (let n : length values ≡ c.loop-v.v = h.count in let o = c.requires.one_each in omega (arith, n, o)) in
    let first : value_of values 0 ≡ neg_ℤ (pos (2 ^ 63)) = h.first in
    let least : (u : ℕ) → u < c.args.vars → value_of values 0 ≤ℤ value_of values u =
    λ u lt. (let f : neg_ℤ (pos (2 ^ 63)) ≤ℤ value_of values u = h.least u (omega (arith, lt, count)) in
    omega (arith, ints)) in
    let N : List ℤ → Type 0 = λ l. IfOk c.sort_order.result (λ order. NamesEachOnce (length l) order.items) in
    let M : ℕ → Type 0 = λ n. IfOk c.sort_order.result (λ order. NamesEachOnce n order.items) in
    let S : List ℤ → Type 0 = λ l. IfOk c.sort_order.result (λ order. IsInOrderOf (value_of l) order.items) in
    both c.sort_order.result (λ order. NamesEachOnce c.args.vars order.items)
    (λ order. IsInOrderOf (value_of values) order.items) (λ order. IsOrder c.args.vars order.items)
    (λ order names sorted. origin_first c.args.vars (value_of values) order.items c.requires.some least names sorted)
    (subst M count (subst N c.deref.ensures.value c.sort_order.ensures.names))
    (subst S c.deref.ensures.value c.sort_order.ensures.in_order)
