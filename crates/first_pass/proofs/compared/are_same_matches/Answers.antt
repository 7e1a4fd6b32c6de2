use Rattle.std.proofs.Common.{sym, ◌∙◌}
use Rattle.first_pass.proofs.Equals.{pointwise_same, is_match, is_match_shown}
use Rattle.first_pass.proofs.compared.are_same_matches.Goals as goal

pub returns : goal.returns
returns c = λ t. pointwise_same is_match is_match_shown c.args.a.now c.args.b.now (sym c.eq.ensures ∙ t)
