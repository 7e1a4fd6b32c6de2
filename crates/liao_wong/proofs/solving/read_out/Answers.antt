use Rattle.std.proofs.Common.{ℤ, List, sym, subst}
use Rattle.liao_wong.{specs.Running.IsReadOut, proofs.Outputs.read_is}
use Rattle.liao_wong.proofs.solving.read_out.Goals as goal

pub returns : goal.returns
returns c =
    let P : List ℤ → Type 0 = λ x. IsReadOut c.args.g.now c.args.order.now.variables.now c.args.backward c.args.rounds
    c.args.floor x c.args.backward c.args.rounds c.into_log.result in
    subst P (sym c.from_vec.ensures)
    (read_is c.args.g.now c.args.order.now.variables.now c.args.backward c.args.rounds c.args.floor c.args.raises
    c.in_ok-x.x.items c.into_log.result c.requires c.in_ok-x.ensures.len c.in_ok-x.ensures.labels
    c.into_log.ensures.raises c.into_log.ensures.holds)
