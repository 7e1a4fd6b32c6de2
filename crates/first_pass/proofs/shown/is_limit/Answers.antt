use Rattle.std.proofs.{Common.◌∙◌, lemmas.List.get_or_default}
use Rattle.first_pass.proofs.shown.is_limit.Goals as goal

pub returns-then-number-limits : goal.returns-then-number-limits
returns-then-number-limits c =
    λ t. (
      c.args.number,
      c.if-number-limits.true,
      get_or_default c.args.limits.now c.args.number c.args.edge.now _
          c.if-number-limits.true ∙ c.is_same_edge.ensures t,
    )
