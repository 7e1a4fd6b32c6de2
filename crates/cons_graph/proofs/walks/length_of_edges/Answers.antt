use Rattle.std.proofs.Common.{◌≡◌, ℕ, ◌+◌, ◌*◌, ◌<◌, ◌≤◌, w64, to_z, of_z, ℤ, pos, neg_ℤ, ◌+ℤ◌, ◌≤ℤ◌, ◌^◌, length}
use Rattle.std.proofs.{Common.{get_or, sym, ap, subst, ◌∙◌, arith}, lemmas.Int.ints}
use Rattle.cons_graph.specs.{Constraints.IsShort, EdgeNumbers.edge_at, declared.edges.Why.TheVariants.Size}
use Rattle.cons_graph.proofs.Tests.{length_of-more}
use Rattle.cons_graph.proofs.walks.length_of_edges.Goals as goal

-- a sum within bounds is computed as it is
exact : (s len : ℤ) (i : ℕ) → i ≤ 2 ^ 36 → neg_ℤ (pos (2 ^ 21 * i)) ≤ℤ s → s ≤ℤ pos (2 ^ 21 * i)
    → neg_ℤ (pos (2 ^ 21)) ≤ℤ len → len ≤ℤ pos (2 ^ 21)
    → to_z w64 (of_z w64 (s +ℤ to_z w64 (of_z w64 len))) ≡ s +ℤ len
exact s len i le a b d e = omega (arith, ints)

low_next : (s len : ℤ) (i : ℕ) → neg_ℤ (pos (2 ^ 21 * i)) ≤ℤ s → neg_ℤ (pos (2 ^ 21)) ≤ℤ len
    → neg_ℤ (pos (2 ^ 21 * (i + 1))) ≤ℤ (s +ℤ len)
low_next s len i a b = omega (arith, ints)

high_next : (s len : ℤ) (i : ℕ) → s ≤ℤ pos (2 ^ 21 * i) → len ≤ℤ pos (2 ^ 21) → (s +ℤ len) ≤ℤ pos (2 ^ 21 * (i + 1))
high_next s len i a b = omega (arith, ints)

pub loop-k-preserved : goal.loop-k-preserved
loop-k-preserved c =
    let k : ℕ = get_or c.args.walk.now c.loop-k.k-index 0 in
    let inside : k < length c.args.edges.now = c.requires.in_range c.loop-k.k-index 0 c.loop-k-test.true in
    let short : IsShort (edge_at c.args.edges.now k) =
    c.requires.short k (record { from = 0; to = 0; len = pos 0; why = Size }) inside in
    let s : ℤ = to_z w64 c.loop-k.sum-bits in
    let len : ℤ = (edge_at c.args.edges.now k).len in
    let few : c.loop-k.k-index ≤ 2 ^ 36 = (let a : length c.args.walk.now ≤ 2 ^ 36 = c.requires.few in omega arith) in
    let now : to_z w64 (of_z w64 (s +ℤ to_z w64 (of_z w64 len))) ≡ s +ℤ len =
    exact s len c.loop-k.k-index few c.loop-k.invariant.low c.loop-k.invariant.high short.0 short.1 in
    let P : ℤ → Type 0 = λ x. neg_ℤ (pos (2 ^ 21 * (c.loop-k.k-index + 1))) ≤ℤ x in
    let Q : ℤ → Type 0 = λ x. x ≤ℤ pos (2 ^ 21 * (c.loop-k.k-index + 1)) in
    record {
      so_far = now ∙ ap (λ x. x +ℤ len) c.loop-k.invariant.so_far
          ∙ sym (length_of-more c.args.edges.now c.args.walk.now c.loop-k.k-index c.loop-k-test.true);
      low = subst P (sym now) (low_next s len c.loop-k.k-index c.loop-k.invariant.low short.0);
      high = subst Q (sym now) (high_next s len c.loop-k.k-index c.loop-k.invariant.high short.1);
    }
