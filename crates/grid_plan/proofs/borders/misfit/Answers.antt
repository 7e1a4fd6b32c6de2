use Rattle.std.proofs.Common.{◌≡◌, ◌∙◌, ℕ, None, take, sym, subst, arith}
use Rattle.plan_model.specs.Borders.{misfit}
use Rattle.grid_plan.proofs.Pieces.{fits_more, misfit_here, ended_first}
use Rattle.grid_plan.proofs.borders.misfit.Goals as goal

pub returns-then-not-may_meet : goal.returns-then-not-may_meet
returns-then-not-may_meet c =
    let test = c.loop-k-test.true in
    let least = c.min-shorter.ensures in
    sym (misfit_here c.args.before.now c.args.after.now c.loop-k.k _ _ (omega arith) (omega arith) c.loop-k.invariant
    (sym c.may_meet.ensures ∙ c.if-not-may_meet.true))

pub loop-k-preserved : goal.loop-k-preserved
loop-k-preserved c =
    let test = c.loop-k-test.true in
    let least = c.min-shorter.ensures in
    fits_more c.args.before.now c.args.after.now c.loop-k.k _ _ (omega arith) (omega arith) c.loop-k.invariant
    (sym c.may_meet.ensures ∙ c.if-not-may_meet.false)

pub returns-else-before-after : goal.returns-else-before-after
returns-else-before-after c =
    let test = c.loop-k-test.false in
    let least = c.min-shorter.ensures in
    let within = c.loop-k.auto.k-end in
    let e : c.loop-k.k ≡ c.min-shorter.result = omega arith in
    let P : ℕ → Type 0 = λ k. misfit (take k c.args.before.now) (take k c.args.after.now) ≡ None in
    sym (ended_first c.args.before.now c.args.after.now c.min-shorter.result c.if-before-after.false (omega arith)
    (subst P e c.loop-k.invariant))
