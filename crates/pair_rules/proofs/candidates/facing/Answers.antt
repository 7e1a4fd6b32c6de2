use Rattle.std.{specs.Prelude.is_some, proofs.Common.{ap, ◌∙◌}}
use Rattle.pair_rules.{specs.Bound.item_at, proofs.FacingItems.is_facing_exactly}
use Rattle.pair_rules.proofs.candidates.facing.Goals as goal

pub returns-clause-candidate : goal.returns-clause-candidate
returns-clause-candidate c =
    is_facing_exactly c.args.axis c.args.tech.now c.args.coords.now (item_at c.args.items.now c.args.i)
    (item_at c.args.items.now c.args.j) c.is_some.result
    (c.is_some.ensures ∙ ap is_some c.facing_spacing.ensures.value)
