use Rattle.std.proofs.Common.{◌≡◌, ℕ, ◌<◌, Bool, ◌||◌, [], length, take, sym, ◌∙◌, ap, arith}
use Rattle.std.{proofs.lemmas.List.Folds.list_any_more, specs.List.list_any}
use Rattle.rule_table.specs.Keys.{Key, keys, key_parts}
use Rattle.tech_file.specs.Unknown.{stands_at, knows}
use Rattle.tech_file.proofs.unknown.knows.Goals.{then-buried, else-buried, then-known, else-known}
use Rattle.tech_file.proofs.unknown.knows.Goals as goal

pub loop-number-preserved : goal.loop-number-preserved
unfolding key_parts
loop-number-preserved c =
    let stands : Key → Bool = stands_at c.args.table.now c.args.name.now in
    let n : ℕ = c.loop-number.number in
    let lt : n < length keys = elim c.if-buried.branch [
      | then-buried w ↦ omega (arith, w.count-is, c.loop-number-test.true)
      | else-buried w ↦ omega (arith, w.count-is, c.loop-number-test.true)
    ] in
    let more = sym (list_any_more stands keys n ([], []) lt) in
    elim c.if-known.branch [
      | then-known w ↦ w.known-is
          ∙ (w.if-known.true
          ∙ (ap (λ b. b || stands (key_parts n)) (sym w.if-known.true ∙ c.loop-number.invariant) ∙ more))
      | else-known w ↦ w.known-is
          ∙ (w.stands_at-known.ensures
          ∙ (ap (λ b. b || stands (key_parts n)) (sym w.if-known.false ∙ c.loop-number.invariant) ∙ more))
    ]

pub returns : goal.returns
unfolding knows
returns c =
    let stands : Key → Bool = stands_at c.args.table.now c.args.name.now in
    let end = c.loop-number.auto.number-end in
    let past = c.loop-number-test.false in
    elim c.if-buried.branch [
      | then-buried w ↦
          (let at : c.loop-number.number ≡ 19 = omega (arith, w.count-is, end, past) in
          rw w.if-buried.true (c.loop-number.invariant ∙ ap (λ n. list_any stands (take n keys)) at))
      | else-buried w ↦
          (let at : c.loop-number.number ≡ 17 = omega (arith, w.count-is, end, past) in
          rw w.if-buried.false (c.loop-number.invariant ∙ ap (λ n. list_any stands (take n keys)) at))
    ]
