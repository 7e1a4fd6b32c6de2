use Rattle.std.proofs.Common.{◌≡◌, length, arith}
use Rattle.first_pass.proofs.Equals.{same_by_places}
use Rattle.first_pass.proofs.compared.are_same_ports.Goals as goal

pub returns : goal.returns
returns c = λ t.
    let n : length c.args.a.now ≡ length c.args.b.now = omega arith in
    same_by_places c.args.a.now c.args.b.now n (λ k d lt. c.loop-k.invariant k (omega arith) d)
