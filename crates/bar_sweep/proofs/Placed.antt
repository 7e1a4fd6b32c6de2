-- Places in order.
use Rattle.std.proofs.Common.{◌≡◌, ℕ, ◌<◌, ◌+◌, ℤ, ◌≤ℤ◌, ◌<ℤ◌, true, false, List, [], ◌∷◌, ◌++◌, zero, suc, get_or}
use Rattle.std.proofs.Common.{sym, ap, ◌∙◌, arith}
use Rattle.std.proofs.lemmas.Int.{ints}
use Rattle.std.proofs.lemmas.{Cmp.int_cmp_total, List.FromFn.{length-range_with_len, get_or-range_with_len}}
use Rattle.std.proofs.lemmas.List.{MinMax.ranks_by, Sorted.{sorted_far, All-permutation, Contains-permutation}}
use Rattle.std.specs.{Ordering.{is_lt, int_cmp, MatchOrdering}, List.{AllPairs, range_with_len}}
use Rattle.std.specs.{List.Sorted.{IsPermutation, IsSortedByKey}, Cmp.int_ranks}
use Rattle.std.specs.declared.cmp.Ordering.{Ordering, TheVariants.{Less, Equal, Greater}}
use Rattle.bar_rows.specs.declared.bars.{Bar.Bar}
use Rattle.bar_sweep.specs.Sweeps.{ArePlaces, start_at}

not_below : (a b : ℤ) (r : Ordering) → MatchOrdering r (b <ℤ a) (b ≡ a) (a <ℤ b) → is_lt r ≡ false → a ≤ℤ b
not_below a b Less h not = absurd (let e : true ≡ false = not in cc)
not_below a b Equal h not = omega (arith, ints, h)
not_below a b Greater h not = omega (arith, ints, h)

pub starts_in_order : (bars : List Bar) (order : List ℕ) → IsSortedByKey (start_at bars) int_cmp order
    → AllPairs (λ a b. start_at bars a ≤ℤ start_at bars b) order
starts_in_order bars order up i j d lt hi =
    let a = start_at bars (get_or order i d) in
    let b = start_at bars (get_or order j d) in
    not_below a b (int_cmp b a) (int_ranks b a)
    (sorted_far (λ s t. is_lt (int_cmp (start_at bars s) (start_at bars t))) (ranks_by int_cmp_total (start_at bars))
    order up i j d (omega arith) hi)

-- the first numbers

number_at : (n i d : ℕ) → i < n → get_or (range_with_len 0 n) i d ≡ i
number_at n i d lt = omega (arith, get_or-range_with_len 0 n i d lt)

range_more_from : (a n : ℕ) → range_with_len a (suc n) ≡ range_with_len a n ++ (a + n) ∷ []
range_more_from a zero = ap (λ k. k ∷ []) (let e : a ≡ a + 0 = omega arith in e)
range_more_from a (suc n) =
    ap (λ ks. a ∷ ks) (range_more_from (a + 1) n
    ∙ ap (λ k. range_with_len (a + 1) n ++ k ∷ []) (let e : (a + 1) + n ≡ a + suc n = omega arith in e))

-- one number more
pub numbers_more : (n : ℕ) (now next : List ℕ) → now ≡ range_with_len 0 n → next ≡ now ++ n ∷ []
    → next ≡ range_with_len 0 (n + 1)
numbers_more n now next was is =
    is ∙ ap (λ ks. ks ++ n ∷ []) was
    ∙ sym (ap (range_with_len 0) (let e : n + 1 ≡ suc n = omega arith in e) ∙ range_more_from 0 n
    ∙ ap (λ k. range_with_len 0 n ++ k ∷ []) (let e : 0 + n ≡ n = omega arith in e))

range_places : (n : ℕ) → ArePlaces n (range_with_len 0 n)
range_places n =
    record {
      in_range = λ i d lt.
          (let len = length-range_with_len 0 n in let at = number_at n i d (omega (arith, len)) in omega (arith, len, at));
      each = λ k lt. (k, omega (arith, length-range_with_len 0 n), number_at n k k lt);
    }

pub first_places : (n m : ℕ) (places : List ℕ) → places ≡ range_with_len 0 m → m ≡ n → ArePlaces n places
first_places n m places is e = rw (is, e) (range_places n)

pub places_permuted : (n : ℕ) (places order : List ℕ) → ArePlaces n places → IsPermutation places order
    → ArePlaces n order
places_permuted n places order are moved =
    record {
      in_range = All-permutation (λ k. k < n) places order moved are.in_range;
      each = λ k lt. Contains-permutation places order k moved (are.each k lt);
    }
