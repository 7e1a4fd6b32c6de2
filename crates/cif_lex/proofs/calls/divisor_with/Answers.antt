use Rattle.std.proofs.{Common.{unsigned_abs, FitsSigned, w64, ap, ◌∙◌, rules}, lemmas.Int.to_z-of_z}
use Rattle.cif_lex.proofs.Divisors.{shift_counted}
use Rattle.cif_lex.proofs.calls.divisor_with.Goals as goal

pub returns-in-Shift : goal.returns-in-Shift
returns-in-Shift c =
    let d = c.in-Shift in
    let x : FitsSigned w64 d.x = search rules in
    let y : FitsSigned w64 d.y = search rules in
    shift_counted c.args.transformation d.x d.y c.args.divisor _ _ _ _ d.is
    (c.unsigned_abs.ensures.value ∙ ap unsigned_abs (to_z-of_z w64 d.x x))
    (c.unsigned_abs-in-Shift.ensures.value ∙ ap unsigned_abs (to_z-of_z w64 d.y y))
    c.common_divisor-with_x.ensures c.common_divisor.ensures
