use Rattle.std.proofs.{lemmas.Result.err_from_is_err_and, Common.{inl, refl}}
use Rattle.design_commands.proofs.compact.compact.Goals as goal

pub returns-in_err-written-clause-refused : goal.returns-in_err-written-clause-refused
returns-in_err-written-clause-refused g c =
    let p = err_from_is_err_and c.from_residual-in_err-written.result c.from_residual-in_err-written.ensures.1 in
    rw p.1 (rw p.2 (inl refl))
