use Rattle.std.proofs.{Common.inl, lemmas.Result.{IfOk-weaker, IfErr-weaker}}
use Rattle.bench_command.proofs.MadeDesigns.{both_axes, laid_by}
use Rattle.bench_command.proofs.bench.laid_line.Goals as goal

pub lay_out-requires-clause-both : goal.lay_out-requires-clause-both
lay_out-requires-clause-both g c = λ κs le. both_axes

pub returns-clause-line : goal.returns-clause-line
returns-clause-line g c =
    let q = c.in_ok-passes.ensures in
    let passes = c.in_ok-passes.passes in
    IfOk-weaker c.line_on.result _ _
    (λ line on. laid_by c.args.n c.args.tech.now c.args.plan.now c.args.masters.now passes.steps passes.coords
    on.0 line.items q.laid_out q.last on.1 on.2) c.line_on.ensures.line

pub returns-clause-refused : goal.returns-clause-refused
returns-clause-refused g c = IfErr-weaker c.line_on.result _ _ (λ r memory. inl memory) c.line_on.ensures.refused
