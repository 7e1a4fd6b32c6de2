-- The variables sorted by (value, number).
use Rattle.std.proofs.Common.{◌≡◌, ◌≢◌, ℕ, ◌<◌, ◌≤◌, ℤ, pos, ◌<ℤ◌, ◌≤ℤ◌, true, false, eqb, Some, List, [], ◌∷◌, ◌++◌}
use Rattle.std.proofs.{Common.{◌+◌, zero, suc, length, get_or, inl, inr, sym, ap, subst, ◌∙◌, arith}, lemmas.Int.ints}
use Rattle.std.proofs.lemmas.{Cmp.{then_total, on_total, int_cmp_total, nat_cmp_total}, Bool.{cases_Bool, eqb-true}}
use Rattle.std.proofs.lemmas.{Bool.{eqb-false, ne_eqb, eq-eqb, Decides.Decides-eqb}, List.MinMax.ranks_by}
use Rattle.std.proofs.lemmas.List.Sorted.{sorted_far, All-permutation, Contains-permutation}
use Rattle.std.proofs.lemmas.Map.{Keys.IsDistinct-IsPermutation, Made.AllPairs-from_IsDistinct}
use Rattle.std.{proofs.lemmas.Map.Made.IsDistinct-from_AllPairs, specs.{Prelude.slice_get, Ordering.{is_lt, int_cmp}}}
use Rattle.std.specs.{Ordering.{nat_cmp, ordering_then, MatchOrdering}, declared.cmp.Ordering.Ordering}
use Rattle.std.specs.{declared.cmp.Ordering.TheVariants.{Less, Equal, Greater}, List.{AllPairs, range_with_len}}
use Rattle.std.specs.{List.Sorted.{IsPermutation, IsSortedByKey}, Cmp.{IsTotalOrder, int_ranks, ranks}}
use Rattle.round_log.{specs.Orders.{NamesEachOnce, IsOrder}, proofs.Outcomes.every_variable}
use Rattle.cons_graph.specs.Solutions.{value_of}
use Rattle.liao_wong.{proofs.Outputs.range_more, specs.Sorted.{Precedes, IsInOrderOf}}

-- the key of a variable, and how two keys compare
abbrev pub key_of : List ℤ → ℕ → ℤ × ℕ
key_of x v = (value_of x v, v)

abbrev pub key_cmp : (ℤ × ℕ) → (ℤ × ℕ) → Ordering
key_cmp a b = ordering_then (int_cmp a.0 b.0) (nat_cmp a.1 b.1)

keys_total : IsTotalOrder key_cmp
keys_total = then_total (on_total (λ (t : ℤ × ℕ). t.0) int_cmp_total) (on_total (λ (t : ℤ × ℕ). t.1) nat_cmp_total)

less_by : (u v : ℕ) → u ≢ v → (r : Ordering) → MatchOrdering r (v < u) (v ≡ u) (u < v) → is_lt r ≡ false → u < v
less_by u v ne Less h not = absurd (let e : true ≡ false = not in cc)
less_by u v ne Equal h not = absurd (ne (sym h))
less_by u v ne Greater h not = h

precedes_by : (x : ℕ → ℤ) (u v : ℕ) → u ≢ v → (r : Ordering) → MatchOrdering r (x v <ℤ x u) (x v ≡ x u) (x u <ℤ x v)
    → is_lt (ordering_then r (nat_cmp v u)) ≡ false → Precedes x u v
precedes_by x u v ne Less h not = absurd (let e : true ≡ false = not in cc)
precedes_by x u v ne Equal h not = inr (sym h, less_by u v ne (nat_cmp v u) (ranks v u) not)
precedes_by x u v ne Greater h not = inl h

pub in_order : (x : List ℤ) (order : List ℕ) → AllPairs (λ u v. u ≢ v) order → IsSortedByKey (key_of x) key_cmp order
    → IsInOrderOf (value_of x) order
in_order x order once up i j d lt hi =
    let u = get_or order i d in
    let v = get_or order j d in
    precedes_by (value_of x) u v (once i j d lt hi) (int_cmp (value_of x v) (value_of x u))
    (int_ranks (value_of x v) (value_of x u))
    (sorted_far (λ a b. is_lt (key_cmp (key_of x a) (key_of x b))) (ranks_by keys_total (key_of x)) order up i j d
    (omega arith) hi)

eqb_flips : (a b : ℕ) → eqb a b ≡ eqb b a
eqb_flips a b = elim (cases_Bool (eqb a b)) as (λ _. eqb a b ≡ eqb b a) [
  | inl t ↦ t ∙ sym (eq-eqb b a (sym (eqb-true a b t)))
  | inr f ↦ f ∙ sym (ne_eqb b a (λ e. eqb-false a b f (sym e)))
]

pub names_permuted : (vars : ℕ) (xs ys : List ℕ) → IsPermutation xs ys → NamesEachOnce vars xs → NamesEachOnce vars ys
names_permuted vars xs ys same o = record {
  in_range = All-permutation (λ v. v < vars) xs ys same o.in_range;
  each = λ v lt. Contains-permutation xs ys v same (o.each v lt);
  once = AllPairs-from_IsDistinct Decides-eqb ys
      (IsDistinct-IsPermutation eqb eqb_flips xs ys same (IsDistinct-from_AllPairs Decides-eqb xs o.once));
}

pub names_sorted : (vars : ℕ) (ys : List ℕ) → IsPermutation (range_with_len 0 vars) ys → NamesEachOnce vars ys
names_sorted vars ys same = names_permuted vars (range_with_len 0 vars) ys same (every_variable vars)

pub range_ends : (v : ℕ) (xs ys : List ℕ) → xs ≡ range_with_len 0 v → ys ≡ xs ++ v ∷ [] → ys ≡ range_with_len 0 (v + 1)
range_ends v xs ys e f =
    f ∙ ap (λ l. l ++ v ∷ []) e
    ∙ sym (ap (range_with_len 0) (let p : v + 1 ≡ suc v = omega arith in p) ∙ range_more 0 v
    ∙ ap (λ x. range_with_len 0 v ++ x ∷ []) (let q : 0 + v ≡ v = omega arith in q))

-- ---- where no value is below the origin's, the origin is first

first_is : (order : List ℕ) → 0 < length order → get_or order 0 0 ≡ 0 → slice_get order 0 ≡ Some 0
first_is [] lt e = absurd (let h : 0 < 0 = lt in omega arith)
first_is (v ∷ vs) lt e = ap (λ n. Some n) e

above_first : (vars : ℕ) (x : ℕ → ℤ) (order : List ℕ) → NamesEachOnce vars order → IsInOrderOf x order → x 0 ≡ pos 0
    → ((v : ℕ) → v < vars → pos 0 ≤ℤ x v) → (i : ℕ) → i < length order → get_or order i 0 ≡ 0 → get_or order 0 0 ≡ 0
above_first vars x order o up begin low zero lt e = e
above_first vars x order o up begin low (suc i) lt e =
    let u : ℕ = get_or order 0 0 in
    let there : u < vars = o.in_range 0 0 (omega arith) in
    let least : pos 0 ≤ℤ x u = low u there in
    let before : Precedes x u 0 = subst (Precedes x u) e (up 0 (suc i) 0 (omega arith) lt) in
    elim before as (λ _. get_or order 0 0 ≡ 0) [
      | inl less ↦ absurd (below_zero (x u) least (let P : ℤ → Type 0 = λ a. x u <ℤ a in subst P begin less))
      | inr
          same ↦ absurd (let h = same.1 in omega arith)
    ]
  where
    below_zero : (a : ℤ) → pos 0 ≤ℤ a → a <ℤ pos 0 → ⊥
    below_zero a h k = grind (arith, ints)

pub sorted_is_order : (vars : ℕ) (x : ℕ → ℤ) (order : List ℕ) → 1 ≤ vars → NamesEachOnce vars order
    → IsInOrderOf x order → x 0 ≡ pos 0 → ((v : ℕ) → v < vars → pos 0 ≤ℤ x v) → IsOrder vars order
sorted_is_order vars x order some o up begin low =
    let w = o.each 0 (omega arith) in
    record {
      names = o;
      origin_first = first_is order (let lt = w.1 in omega arith)
          (above_first vars x order o up begin low w.0 w.1 w.2);
    }
