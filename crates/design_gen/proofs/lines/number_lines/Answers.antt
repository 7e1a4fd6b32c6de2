use Rattle.std.proofs.Common.{◌∙◌}
use Rattle.design_gen.proofs.Growing.{numbered}
use Rattle.design_gen.proofs.lines.number_lines.Goals as goal

pub returns : goal.returns
returns c = c.from_vec.ensures ∙ c.in_ok-lines.ensures ∙ rw c.args.forms.ok.0 (numbered 3 c.args.forms.items)
