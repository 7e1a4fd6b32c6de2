use Rattle.std.proofs.Common.{◌+◌, ◌*◌, length}
use Rattle.edit_session.specs.Raised.{IsRaised, room_left}
use Rattle.edit_session.proofs.raising.raise_last.Given as goal

abbrev pub invariant-loop-v : goal.invariant-loop-v
invariant-loop-v l = IsRaised (length l.fn.x.items) l.last.from l.edges l.x.items l.waiting.marks 0 0

abbrev pub decreases-loop-v : goal.decreases-loop-v
decreases-loop-v l = 2 * room_left l.x.items + l.waiting.count
