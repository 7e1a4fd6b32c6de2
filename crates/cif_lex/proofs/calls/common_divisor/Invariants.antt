use Rattle.std.proofs.Common.{◌≡◌, ℕ, pos, ◌||◌}
use Rattle.cif_lex.specs.Shifts.{is_odd}
use Rattle.cif_lex.proofs.calls.common_divisor.Given as goal

abbrev pub invariant-loop-rest : goal.invariant-loop-rest
invariant-loop-rest l = (above below : ℕ)
    → (is_odd (pos above) (pos below) (pos l.divisor) || is_odd (pos above) (pos below) (pos l.rest))
    ≡ (is_odd (pos above) (pos below) (pos l.fn.a) || is_odd (pos above) (pos below) (pos l.fn.b))

abbrev pub decreases-loop-rest : goal.decreases-loop-rest
decreases-loop-rest l = l.rest
