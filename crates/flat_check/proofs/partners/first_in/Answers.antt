use Rattle.std.proofs.Common.{◌≡◌, ◌≤◌, List, [], All, Contains, IsNone, subst, sym, ◌∙◌, arith, refl}
use Rattle.flat_check.proofs.{InRanges.{none_more, first_there}, SecondBoxes.{broken_before, least_second, none_second}}
use Rattle.flat_check.proofs.partners.first_in.Goals as goal

pub returns-then-b-a : goal.returns-then-b-a
returns-then-b-a c = λ none.
    let tech = c.args.flat.now.tech.now in let boxes = c.args.flat.now.boxes.now in let rule = c.args.rule in
    let a = c.loop-a.a in let b = c.in-Some.b in let least = c.in-Some.ensures.least in
    let found = c.add_partners.new.found.items in
    let there = subst (λ (xs : List _). Contains xs b) c.deref.ensures.value least.1 in
    let below = subst (All (λ c. b ≤ c)) c.deref.ensures.value least.0 in
    absurd (none (broken_before tech boxes rule a _ found c.loop-a.invariant.0 c.in_ok-add_partners.ensures b there
    below c.args.range.now.from c.if-b-a.true c.loop-a.invariant.1))

pub returns-in-Some : goal.returns-in-Some
returns-in-Some c = λ none.
    let tech = c.args.flat.now.tech.now in let boxes = c.args.flat.now.boxes.now in let rule = c.args.rule in
    let a = c.loop-a.a in let b = c.in-Some.b in let least = c.in-Some.ensures.least in
    let found = c.add_partners.new.found.items in
    let there = subst (λ (xs : List _). Contains xs b) c.deref.ensures.value least.1 in
    let below = subst (All (λ c. b ≤ c)) c.deref.ensures.value least.0 in
    first_there tech boxes rule c.args.range.now.from c.args.range.now.to a b c.number.result c.number.ensures
    (omega arith) (omega arith) c.loop-a.invariant.1
    (least_second tech boxes rule a _ found c.loop-a.invariant.0 c.in_ok-add_partners.ensures b there below
    c.if-b-a.false)

pub loop-a-preserved : goal.loop-a-preserved
loop-a-preserved c =
    let tech = c.args.flat.now.tech.now in let boxes = c.args.flat.now.boxes.now in let rule = c.args.rule in let a =
    c.loop-a.a in
    let none : c.add_partners.new.found.items ≡ [] = sym c.deref.ensures.value
    ∙ c.least.ensures.none.0 (subst IsNone (sym c.in_default.is) refl) in (
      none,
      none_more tech boxes rule c.args.range.now.from a c.loop-a.invariant.1
          (none_second tech boxes rule a _ c.add_partners.new.found.items c.loop-a.invariant.0
          c.in_ok-add_partners.ensures none),
    )
