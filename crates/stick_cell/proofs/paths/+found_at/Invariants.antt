use Rattle.std.proofs.Common.{length}
use Rattle.stick_cell.proofs.paths.+found_at.Given as goal

-- proposed from what the function passes where it calls itself
abbrev pub decreases-found_at : goal.decreases-found_at
decreases-found_at l = length l.path.now
