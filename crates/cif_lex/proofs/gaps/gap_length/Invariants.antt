use Rattle.std.proofs.Common.{length, take, ◌-◌, ◌≤◌}
use Rattle.cif_lex.specs.Blanks.{IsGap}
use Rattle.cif_lex.proofs.gaps.gap_length.Given as goal

abbrev pub invariant-loop-at : goal.invariant-loop-at
invariant-loop-at l = record { within : l.at ≤ length l.text; gap : IsGap (take l.at l.text) }

abbrev pub decreases-loop-at : goal.decreases-loop-at
decreases-loop-at l = length l.text - l.at
