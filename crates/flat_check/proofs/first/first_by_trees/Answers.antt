use Rattle.std.proofs.Common.{Option, [], length, sym, subst}
use Rattle.rule_breaks.specs.{declared.rule.Rule.Rule, Lists.{ListBefore, place_of}}
use Rattle.flat_check.specs.Ranges.{IsFirstIn}
use Rattle.flat_check.proofs.{Orders.{first_of_all, keep_all}, RuleByRule.{rule_kept, shapes_before}}
use Rattle.flat_check.proofs.first.first_by_trees.Goals as goal

pub first_in_shares-requires-clause-shapes : goal.first_in_shares-requires-clause-shapes
first_in_shares-requires-clause-shapes g c = λ κs le.
    let tech = c.args.flat.now.tech.now in let boxes = c.args.flat.now.boxes.now in
    shapes_before c.args.flat.now c.args.trees.now c.requires.trees c.in-Some.rule [] tt
    (subst (λ (o : Option Rule). ListBefore tech boxes (place_of o) []) c.in-Some.is c.loop-next.invariant)

pub returns-in-Some-2 : goal.returns-in-Some-2
returns-in-Some-2 g c =
    let tech = c.args.flat.now.tech.now in let boxes = c.args.flat.now.boxes.now in let rule = c.in-Some.rule in
    first_of_all tech boxes rule (length boxes) c.in-Some-2.first
    (subst (λ (o : Option Rule). ListBefore tech boxes (place_of o) []) c.in-Some.is c.loop-next.invariant)
    (subst (IsFirstIn tech boxes rule 0 (length boxes)) c.in-Some-2.is c.in_ok-first.ensures)

pub loop-next-preserved : goal.loop-next-preserved
loop-next-preserved g c =
    let tech = c.args.flat.now.tech.now in let boxes = c.args.flat.now.boxes.now in let rule = c.in-Some.rule in
    let before = subst (λ (o : Option Rule). ListBefore tech boxes (place_of o) []) c.in-Some.is
    c.loop-next.invariant in
    subst (λ (o : Option Rule). ListBefore tech boxes (place_of o) []) (sym c.next-next.ensures)
    (rule_kept tech boxes rule [] (subst (IsFirstIn tech boxes rule 0 (length boxes)) c.in_default-2.is
    c.in_ok-first.ensures) before)

pub returns : goal.returns
returns g c =
    let tech = c.args.flat.now.tech.now in let boxes = c.args.flat.now.boxes.now in
    keep_all tech boxes (subst (λ (o : Option Rule). ListBefore tech boxes (place_of o) []) c.in_default.is
    c.loop-next.invariant)
