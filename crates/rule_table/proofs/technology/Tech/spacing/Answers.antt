use Rattle.std.proofs.Common.{◌∙◌}
use Rattle.rule_table.proofs.{Sound.sound, Margins.{spacing_bounds, spacing_in-symmetric, within_margins}}
use Rattle.rule_table.proofs.technology.Tech.spacing.Goals as goal

pub returns-clause-either_order : goal.returns-clause-either_order
returns-clause-either_order c = c.spacing.ensures ∙ spacing_in-symmetric _ _ _

pub returns-clause-bounds : goal.returns-clause-bounds
returns-clause-bounds c = rw c.spacing.ensures (spacing_bounds _ (sound _ c.args.self.now.sound) _ _)

pub returns-clause-within_margins : goal.returns-clause-within_margins
returns-clause-within_margins c = rw c.spacing.ensures (within_margins _ _ _)
