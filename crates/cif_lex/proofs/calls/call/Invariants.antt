use Rattle.std.proofs.Common.{length, ◌-◌}
use Rattle.cif_lex.proofs.CallForm.{SoFar}
use Rattle.cif_lex.proofs.calls.call.Given as goal

abbrev pub invariant-loop-read : goal.invariant-loop-read
invariant-loop-read l = SoFar l.text l.symbol.value l.at l.place l.bad l.turned l.divisor

abbrev pub decreases-loop-read : goal.decreases-loop-read
decreases-loop-read l = length l.text - l.at
