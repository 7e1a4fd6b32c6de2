-- The spacing of a kept pair is that which its items are bound with.
use mir.Val.{SFits}
use Rattle.std.proofs.Common.{◌≡◌, ℕ, ℤ, ◌∙◌, ◌++◌, [], ◌∷◌, get_or, take, flat_map, refl, ap, sym, subst}
use Rattle.std.proofs.Common.{List, to_z, of_z, w64, Option, Some, None}
use Rattle.std.proofs.{Common.rules, lemmas.{Int.to_z-of_z, List.append-nil}}
use Rattle.pair_rules.specs.{declared.pairs.Pair.Pair, Candidates.pair_with}
use Rattle.pair_set.specs.Sets.{pair_of}
use Rattle.shadow_prune.specs.KeptNumbers.{IsKeptNumbers, pairs_of_numbers}
use Rattle.shadow_prune.proofs.{Listed.piece_more, KeptLists.bound_where_kept}
use Rattle.shadow_prune.proofs.keeping.with_spacings.Goals.{in-Some+in_ok-push, in_default}
use Rattle.shadow_prune.proofs.keeping.with_spacings.Goals as goal

one_pair : (o : Option ℤ) (s z : ℤ) (i j : ℕ) → o ≡ Some z → s ≡ z
    → let p : Pair = record { i = i; j = j; s = s } in pair_with o i j ≡ p ∷ []
one_pair o s z i j e f = rw (e, f) refl

no_pair : (o : Option ℤ) (i j : ℕ) → o ≡ None → pair_with o i j ≡ []
no_pair o i j e = rw e refl

pub loop-key-preserved : goal.loop-key-preserved
loop-key-preserved c =
    let axis = c.args.axis in
    let t = c.args.tech.now in
    let k = c.args.coords.now in
    let items = c.args.items.now in
    let keys = c.args.keys.now in
    let pairs = c.loop-key.pairs.items in
    let i = c.loop-key.key-index in
    let f : ℕ → List Pair = λ key. pairs_of_numbers axis t k items (pair_of key) in
    let n = c.pair_of-j.result in
    let same : n ≡ pair_of (get_or keys i 0) = c.pair_of-j.ensures in
    let next = piece_more f keys i 0 c.loop-key-test.true
    ∙ ap (λ m. flat_map f (take i keys) ++ pairs_of_numbers axis t k items m) (sym same) in
    let before = ap (λ l. l ++ pairs_of_numbers axis t k items n) c.loop-key.invariant in
    let bound = bound_where_kept axis t k items n (subst (IsKeptNumbers axis t k items) (sym same)
    (c.requires.kept i 0 c.loop-key-test.true))
    ∙ sym c.is_bound.ensures.value in
    elim c.match-is_bound.branch [
      | in-Some+in_ok-push w ↦
          let s = to_z w64 (of_z w64 w.in-Some.s) in
          let fits : SFits w64 w.in-Some.s = search rules in
          let same : s ≡ w.in-Some.s = to_z-of_z w64 w.in-Some.s fits in
          let p : Pair = record { i = n.1; j = n.0; s = s } in
          let there : pairs_of_numbers axis t k items n ≡ p ∷ [] =
          one_pair _ s w.in-Some.s n.1 n.0 (bound ∙ w.in-Some.is) same in
          ap (λ v. v.items) w.pairs-is ∙ (w.in_ok-push.ensures.items ∙ (ap (λ l. pairs ++ l) (sym there)
          ∙ (before ∙ sym next)))
      | in_default w ↦
          let none : pairs_of_numbers axis t k items n ≡ [] = no_pair _ n.1 n.0 (bound ∙ w.in_default.is) in
          ap (λ v. v.items) w.pairs-is ∙ (sym (append-nil pairs) ∙ (ap (λ l. pairs ++ l) (sym none)
          ∙ (before ∙ sym next)))
    ]
