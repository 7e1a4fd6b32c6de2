use mir.Val.{SFits}
use Rattle.std.proofs.Common.{◌≡◌, ℕ, ℤ, ◌∙◌, ◌++◌, [], ◌∷◌, length, refl, ap, sym, to_z, of_z, w64, Option, Some, None}
use Rattle.std.proofs.{Common.{Result, Ok, Err, OnErr, rules, arith}, lemmas.{Int.to_z-of_z, List.append-nil}}
use Rattle.pair_rules.specs.{declared.pairs.Pair.Pair, Candidates.{pair_with, pairs_at}}
use Rattle.pair_rules.proofs.{Pieces.first_pieces, pairs.push_pairs_to.Goals.{in-Some+in_ok-push, in_default}}
use Rattle.list_facts.proofs.Pieces.{piece_added}
use Rattle.pair_rules.proofs.pairs.push_pairs_to.Goals as goal

one_pair : (o : Option ℤ) (s z : ℤ) (i j : ℕ) → o ≡ Some z → s ≡ z
    → let p : Pair = record { i = i; j = j; s = s } in pair_with o i j ≡ p ∷ []
one_pair o s z i j e f = rw (e, f) refl

no_pair : (o : Option ℤ) (i j : ℕ) → o ≡ None → pair_with o i j ≡ []
no_pair o i j e = rw e refl

refused : {T E P : Type 0} (r : Result T E) → P → OnErr r P
refused (Ok v) h = tt
refused (Err e) h = h

pub returns-in_err-push-clause-err : goal.returns-in_err-push-clause-err
returns-in_err-push-clause-err c =
    refused c.from_residual.result
    (first_pieces (pairs_at c.args.axis c.args.tech.now c.args.coords.now c.args.items.now c.args.j) c.loop-i.i
    (length c.args.items.now) c.args.pairs.now.items c.push.new.self.items
    (omega (arith, c.loop-i-test.true, c.requires.few)) (c.in_err-push.ensures.items ∙ c.loop-i.invariant))

pub loop-i-preserved : goal.loop-i-preserved
loop-i-preserved c =
    let axis = c.args.axis in
    let t = c.args.tech.now in
    let k = c.args.coords.now in
    let items = c.args.items.now in
    let next = piece_added (pairs_at axis t k items c.args.j) c.loop-i.i c.args.pairs.now.items c.loop-i.pairs.items
    c.match-spacing.pairs.items c.loop-i.invariant in
    let is = c.facing_spacing-spacing.ensures.value in
    elim c.match-spacing.branch [
      | in-Some+in_ok-push w ↦
          let s = to_z w64 (of_z w64 w.in-Some.s) in
          let fits : SFits w64 w.in-Some.s = search rules in
          let same : s ≡ w.in-Some.s = to_z-of_z w64 w.in-Some.s fits in
          let p : Pair = record { i = c.loop-i.i; j = c.args.j; s = s } in
          let there : pairs_at axis t k items c.args.j c.loop-i.i ≡ p ∷ [] =
          one_pair _ _ _ c.loop-i.i c.args.j (sym is ∙ w.in-Some.is) same in
          next (ap (λ v. v.items) w.pairs-is
          ∙ (w.in_ok-push.ensures.items ∙ ap (λ zs. c.loop-i.pairs.items ++ zs) (sym there)))
      | in_default w ↦
          let none : pairs_at axis t k items c.args.j c.loop-i.i ≡ [] =
          no_pair _ c.loop-i.i c.args.j (sym is ∙ w.in_default.is) in
          next (ap (λ v. v.items) w.pairs-is
          ∙ (sym (append-nil c.loop-i.pairs.items) ∙ ap (λ zs. c.loop-i.pairs.items ++ zs) (sym none)))
    ]
