use Rattle.std.proofs.Common.{◌≤◌, length}
use Rattle.rule_breaks.specs.Lists.{ListBefore, place_of}
use Rattle.flat_check.proofs.Orders.{left_from}
use Rattle.flat_check.proofs.listing.list_all.Given as goal

abbrev pub decreases-loop-next : goal.decreases-loop-next
decreases-loop-next g l = left_from l.next

abbrev pub invariant-loop-next : goal.invariant-loop-next
invariant-loop-next g l = ListBefore l.flat.tech.now l.flat.boxes.now (place_of l.next) l.list.items
    × (length l.list.items ≤ l.most)
