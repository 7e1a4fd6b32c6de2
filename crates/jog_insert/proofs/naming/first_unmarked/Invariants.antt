use Rattle.std.proofs.Common.{◌≡◌, ℕ, ◌<◌, get_or, false, true}
use Rattle.jog_insert.proofs.naming.first_unmarked.Given as goal

abbrev pub invariant-loop-n : goal.invariant-loop-n
invariant-loop-n l = (k : ℕ) → k < l.n → get_or l.taken k false ≡ true
