use Rattle.std.proofs.Common.{◌≡◌, ◌++◌, map, take}
use Rattle.flat_check.proofs.Rows.{owner_at}
use Rattle.flat_check.proofs.facing.add_owners.Given as goal

abbrev pub invariant-loop-place : goal.invariant-loop-place
invariant-loop-place l = l.found.items ≡ l.fn.found.items ++ map (owner_at l.entries) (take l.place-index l.place-items)
