use Rattle.std.proofs.{Common.{◌≡◌, ◌∙◌}, lemmas.Result.err_from_is_err_and}
use Rattle.tech_file.proofs.Judged.{keys_refused, unknown_refused, unfit_refused, accepted}
use Rattle.tech_file.proofs.reading.technology.Goals as goal

pub returns-in_err-numbers-clause-refused : goal.returns-in_err-numbers-clause-refused
returns-in_err-numbers-clause-refused c =
    let p = err_from_is_err_and c.from_residual.result c.from_residual.ensures.1 in
    rw (p.1, p.2) (keys_refused _ _ c.in_err-numbers.ensures)

pub returns-in-Some-clause-refused : goal.returns-in-Some-clause-refused
returns-in-Some-clause-refused c =
    let some = rw (c.in-Some.is, c.has_buried.ensures) at c.in_ok-key.ensures.value in
    let text : c.in_ok-key-2.key ≡ c.in-Some.key.items = c.in_ok-key-2.ensures ∙ c.as_slice.ensures.value in
    rw text (unknown_refused _ _ _ c.in_ok-numbers.ensures some)

pub returns-in-Ok-clause-accepted : goal.returns-in-Ok-clause-accepted
returns-in-Ok-clause-accepted c =
    let none = rw (c.in_default.is, c.has_buried.ensures) at c.in_ok-key.ensures.value in
    rw c.in-Ok.ensures.ok (accepted _ _ c.in_ok-numbers.ensures none c.in-Ok.ensures.accepted)

pub returns-in-Err-clause-refused : goal.returns-in-Err-clause-refused
returns-in-Err-clause-refused c =
    let none = rw (c.in_default.is, c.has_buried.ensures) at c.in_ok-key.ensures.value in
    unfit_refused _ _ _ c.in_ok-numbers.ensures none c.in-Err.ensures.refused
