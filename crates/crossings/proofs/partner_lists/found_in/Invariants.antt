use Rattle.std.proofs.Common.{All}
use Rattle.crossings.specs.PartnerLists.{IsFound}
use Rattle.crossings.proofs.partner_lists.found_in.Given as goal

abbrev pub invariant-loop-at : goal.invariant-loop-at
invariant-loop-at l = All (IsFound l.boxes) l.found.items
