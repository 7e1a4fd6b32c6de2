use Rattle.std.proofs.lemmas.Result.{IfOk-weaker}
use Rattle.tech_file.proofs.Least.{least_by_parts, names_least}
use Rattle.tech_file.proofs.unknown.least_unknown.Goals as goal

pub returns-clause-value : goal.returns-clause-value
returns-clause-value c =
    let all =
    least_by_parts _ _ _ _ _ _ c.in_ok-of_top.ensures c.in_ok-of_width.ensures c.in_ok-of_spacing.ensures
    c.in_ok-of_extension.ensures in
    rw (← all) c.or_unknown_at-4.ensures

pub returns-clause-named : goal.returns-clause-named
returns-clause-named c =
    IfOk-weaker c.or_unknown_at-4.result _ _ (λ key e. names_least _ _ e) (returns-clause-value c)
