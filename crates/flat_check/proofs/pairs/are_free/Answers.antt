use Rattle.std.proofs.Common.{◌≡◌, true, false, sym, ap, ◌∙◌, subst, arith}
use Rattle.flat_check.{specs.Clear.{IsFree, query_beside, entry_in}, proofs.Clear.free_more}
use Rattle.flat_check.proofs.pairs.are_free.Goals as goal

pub loop-place-preserved-then-not-may_hold : goal.loop-place-preserved-then-not-may_hold
loop-place-preserved-then-not-may_hold c =
    let others = c.args.others.now in let other = c.args.other.now in let own = c.args.own.now in
    let query = c.beside-query.result in
    let is = c.beside-query.ensures.value ∙ ap (query_beside c.args.question) c.entry.ensures.value in
    let free : IsFree others other query = λ q low high holds.
    c.may_hold.ensures c.if-not-may_hold.true (entry_in others q) (c.requires.other.bounded q low high) holds in
    free_more others other own c.args.group.now.start c.loop-place.place c.args.question c.loop-place.invariant
    (subst (IsFree others other) is free)

pub loop-place-preserved : goal.loop-place-preserved
loop-place-preserved c =
    let others = c.args.others.now in let other = c.args.other.now in
    let is = c.beside-query.ensures.value ∙ ap (query_beside c.args.question) c.entry.ensures.value in
    free_more others other c.args.own.now c.args.group.now.start c.loop-place.place c.args.question
    c.loop-place.invariant (subst (IsFree others other) is (c.is_free.ensures.0 c.if-not-is_free.false))

pub returns-then-not-is_free : goal.returns-then-not-is_free
returns-then-not-is_free c =
    let others = c.args.others.now in let other = c.args.other.now in let at = c.loop-place.place in
    let is = c.beside-query.ensures.value ∙ ap (query_beside c.args.question) c.entry.ensures.value in (
      λ t. let no : ⊥ = cc in absurd no,
      λ free.
          let here : IsFree others other c.beside-query.result =
          subst (IsFree others other) (sym is) (free at (omega arith) (omega arith)) in
          let t : c.is_free.result ≡ true = c.is_free.ensures.1 here in
          let f : c.is_free.result ≡ false = c.if-not-is_free.true in cc,
    )
