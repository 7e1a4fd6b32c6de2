use Rattle.std.proofs.Common.{FitsSigned, w64, rules}
use Rattle.cif_read.proofs.Narrowing.{called_order}
use Rattle.cif_read.proofs.plain.plain_step.Goals as goal

pub returns-in-Called : goal.returns-in-Called
returns-in-Called c =
    let d = c.in-Called in
    let x : FitsSigned w64 d.x = search rules in
    let y : FitsSigned w64 d.y = search rules in
    called_order c.args.at d.symbol _ d.x d.y c.args.step d.is x y
