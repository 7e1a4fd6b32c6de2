use Rattle.std.proofs.lemmas.Result.{err_from_is_err_and}
use Rattle.tech_file.proofs.Judged.{text_refused, by_table}
use Rattle.tech_file.proofs.reading.read_tech.Goals as goal

pub returns-in_err-top-clause-refused : goal.returns-in_err-top-clause-refused
returns-in_err-top-clause-refused c =
    let p = err_from_is_err_and c.from_residual.result c.from_residual.ensures.1 in
    rw (p.1, p.2) (text_refused _ _ c.in_err-top.ensures.refused)

pub returns-clause-accepted : goal.returns-clause-accepted
returns-clause-accepted c = rw (by_table _ _ c.in_ok-top.ensures.read) c.technology.ensures.accepted

pub returns-clause-refused : goal.returns-clause-refused
returns-clause-refused c = rw (by_table _ _ c.in_ok-top.ensures.read) c.technology.ensures.refused
