use Rattle.std.{proofs.{Common.{◌≡◌, sym, ap, ◌∙◌, to_z, of_z, w64, arith}, lemmas.Int.ints}, specs.Bool.then_some}
use Rattle.pair_rules.{specs.Candidates.{is_before, sides_at, facing_spacing}, proofs.FacingItems.faces_exactly}
use Rattle.pair_rules.proofs.{FacingItems.{facing_by, not_bound}, candidates.facing_spacing.Goals.After-then_some}
use Rattle.pair_rules.proofs.candidates.facing_spacing.Goals as goal

pub returns-in_err-spacing-clause-value : goal.returns-in_err-spacing-clause-value
returns-in_err-spacing-clause-value c =
    rw c.from_residual.ensures
    (sym (not_bound c.args.axis c.args.tech.now c.args.coords.now c.args.a.now c.args.b.now
    c.in_err-spacing.ensures.value))

told : (c : After-then_some)
    → c.then_some.result ≡ facing_spacing c.args.axis c.args.tech.now c.args.coords.now c.args.a.now c.args.b.now
told c =
    let s = c.in_ok-spacing.spacing in
    let small = c.in_ok-spacing.ensures.bounds in
    let same : to_z w64 (of_z w64 s) ≡ s = omega (arith, ints, small) in
    let u = sides_at c.args.axis c.args.coords.now c.args.a.now in
    let v = sides_at c.args.axis c.args.coords.now c.args.b.now in
    c.then_some.ensures
    ∙ (ap (λ q. then_some q (to_z w64 (of_z w64 s))) c.is_before.ensures
    ∙ (ap (λ z. then_some (is_before z u v) z) same
    ∙ sym (facing_by c.args.axis c.args.tech.now c.args.coords.now c.args.a.now c.args.b.now s
    c.in_ok-spacing.ensures.value)))

pub returns-clause-value : goal.returns-clause-value
returns-clause-value c = told (goal.at.returns-clause-value c).After-then_some

pub returns-clause-candidate : goal.returns-clause-candidate
returns-clause-candidate c =
    faces_exactly c.args.axis c.args.tech.now c.args.coords.now c.args.a.now c.args.b.now c.then_some.result
    (told (goal.at.returns-clause-candidate c).After-then_some)
