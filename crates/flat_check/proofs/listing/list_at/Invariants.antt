use Rattle.flat_check.proofs.SecondBoxes.{AreListedTo}
use Rattle.flat_check.proofs.listing.list_at.Given as goal

abbrev pub invariant-loop-b : goal.invariant-loop-b
invariant-loop-b l = AreListedTo l.flat.tech.now l.flat.boxes.now l.rule l.a l.found l.most l.b-index l.list.items
