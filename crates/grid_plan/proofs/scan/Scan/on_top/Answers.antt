use Rattle.std.proofs.Common.{[], arith}
use Rattle.grid_plan.proofs.scan.Scan.on_top.Goals as goal

pub mismatch-requires-clause-col : goal.mismatch-requires-clause-col
mismatch-requires-clause-col c =
    let near = c.requires.few.cells c.args.r [] c.requires.instance.row in
    let within = c.requires.instance.column in
    omega arith
