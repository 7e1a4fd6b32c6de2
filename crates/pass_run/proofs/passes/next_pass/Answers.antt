use Rattle.std.proofs.{Common.{◌+◌, [], ◌∷◌, ◌++◌, ap, ◌∙◌, arith}, lemmas.Result.err_from_is_err_and}
use Rattle.lam_geom.specs.declared.boxes.Axis.{Axis}
use Rattle.pass_run.specs.Passes.{axes_of}
use Rattle.pass_run.proofs.{Chain.axes_more, Going.{going_laid, going_more, refused_cyclic, refused_stopped}}
use Rattle.pass_run.proofs.passes.next_pass.Goals as goal

pub one_pass-requires-clause-laid : goal.one_pass-requires-clause-laid
one_pass-requires-clause-laid g c κs within = rw c.deref.ensures.value (going_laid c.requires.going)

pub returns-in_ok-with_pass-in-Ok-clause-going : goal.returns-in_ok-with_pass-in-Ok-clause-going
returns-in_ok-with_pass-in-Ok-clause-going g c =
    let m = c.in-Ok.ensures in
    let w = c.in_ok-with_pass-in-Ok.ensures in
    going_more c.in_ok-with_pass-in-Ok.field-0 c.requires.going c.deref.ensures.value (omega arith) m.axis
    c.is_told-told.ensures.last m.made
    w.layouts w.steps w.report w.told w.untold

pub returns-in_ok-with_pass-in-Ok-clause-axes : goal.returns-in_ok-with_pass-in-Ok-clause-axes
returns-in_ok-with_pass-in-Ok-clause-axes g c =
    let last = ap (λ (axis : Axis). axes_of c.args.so_far.steps.items ++ axis ∷ []) c.in-Ok.ensures.axis in
    ap (λ steps. axes_of steps) c.in_ok-with_pass-in-Ok.ensures.steps
    ∙ (axes_more c.args.so_far.steps.items c.in-Ok.made.step ∙ last)

pub returns-in_err-text-in-Err-clause-refused : goal.returns-in_err-text-in-Err-clause-refused
returns-in_err-text-in-Err-clause-refused g c =
    let p = err_from_is_err_and c.from_residual-in_err-text-in-Err.result
    c.from_residual-in_err-text-in-Err.ensures.1 in
    rw (p.1, p.2)
    (λ later. refused_stopped c.requires.going c.deref.result.now (c.len.result + 1) c.args.axis later c.in-Err.stop _
    c.deref.ensures.value
    (omega arith) c.in-Err.ensures.stopped c.in_err-text-in-Err.ensures)

pub returns-in_ok-report-in-Err-clause-refused : goal.returns-in_ok-report-in-Err-clause-refused
returns-in_ok-report-in-Err-clause-refused g c = λ later.
    refused_cyclic c.requires.going c.deref.result.now (c.len.result + 1) c.args.axis later
    c.in_ok-text-in-Err.text.items
    c.in_ok-report-in-Err.report c.deref.ensures.value (omega arith)
    (rw c.in_ok-text-in-Err.ensures at c.in-Err.ensures.stopped)
    (rw (← c.deref-in-Err.ensures.value, ← c.deref-in-Err-2.ensures.value) c.in_ok-report-in-Err.ensures)
