use Rattle.std.proofs.Common.{◌≡◌, length, ◌∙◌, arith}
use Rattle.first_pass.proofs.Equals.{same_bared}
use Rattle.first_pass.proofs.compared.differ_in_limits.Goals as goal

pub returns : goal.returns
returns c = λ t.
    let n : length c.args.masters.now ≡ length c.args.bared.now = omega arith in
    same_bared c.args.tech.now c.args.masters.now c.args.bared.now n (λ k lt. c.loop-m.invariant k (omega arith))
    c.requires.each c.requires.bared ∙ c.requires.are_bare
