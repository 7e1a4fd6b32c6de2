use Rattle.std.proofs.lemmas.Result.{err_from_is_err_and}
use Rattle.bench_command.proofs.bench.bench.Goals as goal

pub returns-in_err-design-clause-refused : goal.returns-in_err-design-clause-refused
returns-in_err-design-clause-refused g c =
    let p = err_from_is_err_and c.from_residual.result c.from_residual.ensures.1 in
    rw p.1 (rw p.2 tt)

pub made_line-requires-clause-checked : goal.made_line-requires-clause-checked
made_line-requires-clause-checked g c = λ κs le. c.made_designs_have_no_fault.ensures.checked c.shipped-tech.result
