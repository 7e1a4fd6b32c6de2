use Rattle.std.proofs.Common.{arith}
use Rattle.flat_check.proofs.RuleByRule.{rule_kept, rule_passed}
use Rattle.flat_check.proofs.listing.list_rule.Goals as goal

pub returns-then-branch : goal.returns-then-branch
returns-then-branch g c =
    let flat = c.args.flat.now in (
      rule_kept flat.tech.now flat.boxes.now c.args.rule c.args.list.now.items
          (λ a b low high. c.in_ok-is_kept.ensures c.if-branch.true a b) c.requires.listed,
      c.requires.few,
    )

pub returns : goal.returns
returns g c =
    let flat = c.args.flat.now in let few = c.requires.flat.searchable.few in (
      rule_passed flat.tech.now flat.boxes.now c.args.rule c.loop-a.a c.loop-a.list.items
          (omega (arith, c.loop-a-test.false, few)) c.loop-a.invariant.0,
      c.loop-a.invariant.1,
    )
