use Rattle.std.proofs.Common.{◌≡◌, ℤ, Option, Some, None, ◌∙◌, to_z, of_z, w64, rules}
use Rattle.pair_rules.{specs.Bound.bound_spacing, proofs.{EitherOrder.bound_symmetric, BoundItems.bound_exactly}}
use Rattle.pair_rules.proofs.bound.is_bound.Goals as goal

pub returns-then-a-b-clause-meaning : goal.returns-then-a-b-clause-meaning
unfolding bound_spacing
returns-then-a-b-clause-meaning c = bound_exactly c.args.tech.now c.args.a.now c.args.b.now None (search rules)

pub returns-then-a-b-clause-either_order : goal.returns-then-a-b-clause-either_order
unfolding bound_spacing
returns-then-a-b-clause-either_order c =
    let told : None ≡ bound_spacing c.args.tech.now c.args.a.now c.args.b.now = search rules in
    told ∙ bound_symmetric c.args.tech.now c.args.a.now c.args.b.now

pub returns-clause-meaning : goal.returns-clause-meaning
unfolding bound_spacing
returns-clause-meaning c =
    bound_exactly c.args.tech.now c.args.a.now c.args.b.now (Some (to_z w64 (of_z w64 c.in_ok-rule.rule.s)))
    (search rules)

pub returns-clause-either_order : goal.returns-clause-either_order
unfolding bound_spacing
returns-clause-either_order c =
    let o : Option ℤ = Some (to_z w64 (of_z w64 c.in_ok-rule.rule.s)) in
    let told : o ≡ bound_spacing c.args.tech.now c.args.a.now c.args.b.now = search rules in
    told ∙ bound_symmetric c.args.tech.now c.args.a.now c.args.b.now
