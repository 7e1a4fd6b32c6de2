use Rattle.std.proofs.Common.{sym, ◌∙◌}
use Rattle.first_pass.proofs.Equals.{pointwise_same, is_same, is_same_shown}
use Rattle.first_pass.proofs.compared.are_same_pitches.Goals as goal

pub returns : goal.returns
returns c = λ t. pointwise_same is_same is_same_shown c.args.a.now c.args.b.now (sym c.eq.ensures ∙ t)
