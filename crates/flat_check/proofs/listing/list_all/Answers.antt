use Rattle.std.proofs.Common.{◌≤◌, Bool, true, false, Option, List, MatchBool, Vec, Global, length, sym, ap, subst}
use Rattle.rule_breaks.specs.{declared.rule.{Break.Break, Rule.Rule}, Lists.{AreFirstBreaks, BeginsAfter, IsListed}}
use Rattle.rule_breaks.specs.{Lists.{ListBefore, place_of}, Order.next_of}
use Rattle.flat_check.specs.FlatLayouts.{IsOnNets}
use Rattle.flat_check.proofs.{Listed.{cut_list, whole_list}, RuleByRule.{net_rule_passed, shapes_before}}
use Rattle.flat_check.proofs.listing.list_all.Goals.{else-is_looked_at-via-then-is_looked_at+in_ok-list_rule+else-branch}
use Rattle.flat_check.proofs.listing.list_all.Goals.{else-is_looked_at-via-else-is_looked_at}
use Rattle.flat_check.proofs.listing.list_all.Goals as goal

pub list_rule-requires-clause-shapes : goal.list_rule-requires-clause-shapes
list_rule-requires-clause-shapes g c = λ κs le on.
    let flat = c.args.flat.now in let rule = c.in-Some.rule in let list = c.loop-next.list.items in
    let before = subst (λ (o : Option Rule). ListBefore flat.tech.now flat.boxes.now (place_of o) list) c.in-Some.is
    c.loop-next.invariant.0 in
    shapes_before flat c.args.trees.now c.requires.trees rule list
    (subst (BeginsAfter 5) c.as_slice.ensures.value (c.if-is_looked_at.ensures on)) before on

pub returns-then-branch : goal.returns-then-branch
returns-then-branch g c =
    let tech = c.args.flat.now.tech.now in let boxes = c.args.flat.now.boxes.now in let list =
    c.list_rule.new.list.items in
    let cut = subst (λ (b : Bool). IsListed tech boxes c.args.most (place_of (next_of c.in-Some.rule)) b list)
    c.if-branch.true c.in_ok-list_rule.ensures in
    subst (λ (l : List Break). AreFirstBreaks tech boxes c.args.most l true) (sym c.from_vec-list.ensures)
    (cut_list tech boxes c.args.most list cut)

pub loop-next-preserved : goal.loop-next-preserved
loop-next-preserved g c =
    let tech = c.args.flat.now.tech.now in let boxes = c.args.flat.now.boxes.now in let rule =
    c.in-Some.rule in let most = c.args.most in
    let P : List Break → Type 0 = λ l. ListBefore tech boxes (place_of (next_of rule)) l × (length l ≤ most) in
    let items = λ (v : Vec Break Global). v.items in
    let list = c.loop-next.list.items in
    let there : P c.else-is_looked_at.list.items = elim c.else-is_looked_at.branch [
      | else-is_looked_at-via-then-is_looked_at+in_ok-list_rule+else-branch w ↦
          subst P (sym (ap items w.list-is))
          (subst (λ (b : Bool). IsListed tech boxes most (place_of (next_of rule)) b w.list_rule.new.list.items)
          w.if-branch.false w.in_ok-list_rule.ensures)
      | else-is_looked_at-via-else-is_looked_at w ↦
          let before = subst (λ (o : Option Rule). ListBefore tech boxes (place_of o) list) c.in-Some.is
          c.loop-next.invariant.0 in
          let slice = c.as_slice.result.now in
          let off : IsOnNets rule × (BeginsAfter 5 slice → ⊥) =
          subst (λ (b : Bool). MatchBool b (IsOnNets rule → BeginsAfter 5 slice)
          (IsOnNets rule × (BeginsAfter 5 slice → ⊥))) w.if-is_looked_at.false c.is_looked_at.ensures in
          subst P (sym (ap items w.list-is)) (
            net_rule_passed tech boxes rule list off.0
                (subst (λ (l : List Break). BeginsAfter 5 l → ⊥) c.as_slice.ensures.value off.1)
                before,
            c.loop-next.invariant.1,
          )
    ] in
    subst (λ (o : Option Rule). ListBefore tech boxes (place_of o) c.else-is_looked_at.list.items
    × (length c.else-is_looked_at.list.items ≤ most)) (sym c.next-next.ensures) there

pub returns : goal.returns
returns g c =
    let tech = c.args.flat.now.tech.now in let boxes = c.args.flat.now.boxes.now in let list = c.loop-next.list.items in
    let before = subst (λ (o : Option Rule). ListBefore tech boxes (place_of o) list) c.in_default.is
    c.loop-next.invariant.0 in
    subst (λ (l : List Break). AreFirstBreaks tech boxes c.args.most l false) (sym c.from_vec-list-2.ensures)
    (whole_list tech boxes c.args.most list c.loop-next.invariant.1 before)
