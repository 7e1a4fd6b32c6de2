use Rattle.std.proofs.Common.{All}
use Rattle.crossings.specs.PartnerLists.{IsFound}
use Rattle.crossings.proofs.partner_lists.add_run.Given as goal

abbrev pub invariant-loop-place : goal.invariant-loop-place
invariant-loop-place l = All (IsFound l.boxes) l.found.items
