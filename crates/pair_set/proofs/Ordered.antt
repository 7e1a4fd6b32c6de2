-- Lists of pairs, kept as numbers, in order, each once.
use Rattle.std.proofs.Common.{◌≡◌, ◌↔◌, ◌^◌, ◌/◌, ◌<◌, ◌≤◌, ℕ, suc, zero, List, [], ◌∷◌, ◌++◌}
use Rattle.std.proofs.Common.{get_or, eqb, inl, inr, refl, sym, ap, subst, ◌∙◌, ◌⊎◌, map, length, arith}
use Rattle.std.proofs.lemmas.{Cmp.{nat_cmp_total, nat_eq_equiv}, Bool.{eqb-true, Decides.nat_tests}}
use Rattle.std.proofs.lemmas.{Map.Keys.Less-from_sorted, List.{length-map, get_or-map, map-append}}
use Rattle.std.proofs.lemmas.List.Kept.{IsStrictlySortedBy-dedup, Contains-dedup, Contains-from_dedup}
use Rattle.std.proofs.lemmas.List.Elements.{Contains-push, Contains-push_cases, Contains-append_left}
use Rattle.std.proofs.lemmas.List.Sorted.{Contains-permutation, IsPermutation-sym}
use Rattle.std.proofs.Math.Nat.{div-add-mod, mod-lt}
use Rattle.std.specs.{Ordering.{nat_cmp, MatchOrdering, is_eq}, List.{AllPairs, Contains, dedup}}
use Rattle.std.specs.{List.Sorted.{IsPermutation, IsSorted}, Cmp.{ranks}}
use Rattle.std.specs.declared.cmp.Ordering.{Ordering, TheVariants.{Less, Equal, Greater}}
use Rattle.pair_set.specs.Sets.{IsBefore, pair_of}

-- ---- numbers and pairs

either : (a b : ℕ) → (a < b) ⊎ (b ≤ a)
either a b = grind (arith, nat_tests)

-- pairs stand in order where their numbers do
before : (a b : ℕ) → a < b → IsBefore (pair_of a) (pair_of b)
before a b lt =
    let first = div-add-mod a (2 ^ 32) in
    let second = div-add-mod b (2 ^ 32) in
    let some : 0 < 2 ^ 32 = omega arith in
    let low = mod-lt a some in
    let high = mod-lt b some in
    elim (either (a / 2 ^ 32) (b / 2 ^ 32)) as (λ _. IsBefore (pair_of a) (pair_of b)) [
      | inl less ↦ inl less
      | inr most ↦ inr (
        omega (arith, first, second, low, high, most, lt),
        omega (arith, first, second, low, high, most, lt),
      )
    ]

-- ---- what is in a list of pairs

in_pairs : (keys : List ℕ) (k : ℕ) → Contains keys k → Contains (map pair_of keys) (pair_of k)
in_pairs keys k h = (
  h.0,
  subst (λ n. h.0 < n) (sym (length-map keys pair_of)) h.1,
  get_or-map pair_of keys h.0 k (pair_of k) h.1 ∙ ap pair_of h.2,
)

out_of_pairs : (keys : List ℕ) (p : ℕ × ℕ) → Contains (map pair_of keys) p
    → (k : ℕ) × Contains keys k × (pair_of k ≡ p)
out_of_pairs [] p h = absurd (omega (arith, h.1))
out_of_pairs (x ∷ keys) p (zero, lt, e) = (x, (zero, omega arith, refl), e)
out_of_pairs (x ∷ keys) p (suc n, lt, e) =
    let r = out_of_pairs keys p (n, omega (arith, lt), e) in
    (r.0, (suc r.1.0, omega (arith, r.1.1), r.1.2), r.2)

-- ---- sorted numbers, each once

ties : (a b : ℕ) → eqb a b ≡ is_eq (nat_cmp a b)
ties a b = grind (arith, nat_tests)

less_of : (a b : ℕ) (r : Ordering) → MatchOrdering r (a < b) (a ≡ b) (b < a) → r ≡ Less → a < b
less_of a b Less h e = h
less_of a b Equal h e = absurd (cc)
less_of a b Greater h e = absurd (cc)

pub in_order : (keys : List ℕ) → IsSorted nat_cmp keys → AllPairs IsBefore (map pair_of (dedup eqb keys))
in_order keys up i j d lt there =
    let once = dedup eqb keys in
    let below : j < length once = subst (λ n. j < n) (length-map once pair_of) there in
    let a = get_or once i 0 in
    let b = get_or once j 0 in
    let less = less_of a b (nat_cmp a b) (ranks a b)
    (Less-from_sorted nat_cmp once i j 0 (IsStrictlySortedBy-dedup nat_cmp_total ties keys up) lt below) in
    rw (get_or-map pair_of once i 0 d (omega (arith, lt, below)), get_or-map pair_of once j 0 d below)
    (before a b less)

pub same_members : (old keys : List ℕ) → IsPermutation old keys
    → (p : ℕ × ℕ) → Contains (map pair_of (dedup eqb keys)) p ↔ Contains (map pair_of old) p
same_members old keys moved p = (
  λ h. let r = out_of_pairs (dedup eqb keys) p h in
      subst (λ q. Contains (map pair_of old) q) r.2
      (in_pairs old r.0
      (Contains-permutation keys old r.0 (IsPermutation-sym old keys moved) (Contains-from_dedup eqb keys r.0 r.1))),
  λ h. let r = out_of_pairs old p h in
      subst (λ q. Contains (map pair_of (dedup eqb keys)) q) r.2
      (in_pairs (dedup eqb keys) r.0
      (Contains-dedup nat_eq_equiv (λ x y. eqb-true x y) keys r.0 (Contains-permutation old keys r.0 moved r.1))),
)

-- ---- a number was added to a list, and the list put in order

pub record IsPushed (old pushed sorted : List ℕ) (key : ℕ) (pair : ℕ × ℕ) : Type 0 where
  pub is : pushed ≡ old ++ key ∷ []
  pub of : pair_of key ≡ pair
  pub same : (p : ℕ × ℕ) → Contains (map pair_of sorted) p ↔ Contains (map pair_of pushed) p

pairs_pushed : (old pushed sorted : List ℕ) (key : ℕ) (pair : ℕ × ℕ) → IsPushed old pushed sorted key pair
    → map pair_of pushed ≡ map pair_of old ++ pair ∷ []
pairs_pushed old pushed sorted key pair h =
    ap (map pair_of) h.is ∙ (map-append pair_of old (key ∷ []) ∙ ap (λ q. map pair_of old ++ q ∷ []) h.of)

pub pushed_there : (old pushed sorted : List ℕ) (key : ℕ) (pair : ℕ × ℕ) → IsPushed old pushed sorted key pair
    → Contains (map pair_of sorted) pair
pushed_there old pushed sorted key pair h =
    (h.same pair).1 (subst (λ l. Contains l pair) (sym (pairs_pushed old pushed sorted key pair h))
    (Contains-push (map pair_of old) pair))

pub pushed_kept : (old pushed sorted : List ℕ) (key : ℕ) (pair : ℕ × ℕ) → IsPushed old pushed sorted key pair
    → (p : ℕ × ℕ) → Contains (map pair_of old) p → Contains (map pair_of sorted) p
pushed_kept old pushed sorted key pair h p there =
    (h.same p).1 (subst (λ l. Contains l p) (sym (pairs_pushed old pushed sorted key pair h))
    (Contains-append_left (map pair_of old) (pair ∷ []) p there))

pub pushed_others : (old pushed sorted : List ℕ) (key : ℕ) (pair : ℕ × ℕ) → IsPushed old pushed sorted key pair
    → (p : ℕ × ℕ) → Contains (map pair_of sorted) p → Contains (map pair_of old) p ⊎ (p ≡ pair)
pushed_others old pushed sorted key pair h p there =
    elim (Contains-push_cases (map pair_of old) pair p
    (subst (λ l. Contains l p) (pairs_pushed old pushed sorted key pair h) ((h.same p).0 there)))
    as (λ _. Contains (map pair_of old) p ⊎ (p ≡ pair)) [
      | inl k ↦ inl k
      | inr e ↦ inr (sym e)
    ]
