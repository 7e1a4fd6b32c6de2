use Rattle.std.proofs.{Common.{◌≡◌, true, false, inl, inr, sym, ap, ◌∙◌, subst, arith}, lemmas.Bool.cases_lt}
use Rattle.box_tree.specs.Queries.{Holds}
use Rattle.flat_check.specs.Clear.{entry_in}
use Rattle.flat_check.proofs.pairs.is_free.Goals as goal

pub loop-place-preserved : goal.loop-place-preserved
loop-place-preserved c = λ p low high holds. elim (cases_lt p c.loop-place.place) [
  | inl less ↦ c.loop-place.invariant p low less holds
  | inr more ↦
      let query = c.args.query.now in
      let same : p ≡ c.loop-place.place = omega arith in
      let here = subst (Holds query) (ap (entry_in c.args.parts.now) same ∙ sym c.entry.ensures.value) holds in
      let t : c.holds.result ≡ true = c.holds.ensures.1 here in
      let f : c.holds.result ≡ false = c.if-holds.false in cc
]

pub returns-then-holds : goal.returns-then-holds
returns-then-holds c =
    let at = c.loop-place.place in
    let here : Holds c.args.query.now (entry_in c.args.parts.now at) =
    subst (Holds c.args.query.now) c.entry.ensures.value (c.holds.ensures.0 c.if-holds.true) in
    (λ t. let no : ⊥ = cc in absurd no, λ free. absurd (free at (omega arith) (omega arith) here))
