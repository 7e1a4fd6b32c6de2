use Rattle.crossings.proofs.PartnerLists.{Counted}
use Rattle.crossings.proofs.partner_lists.partners_among.Given as goal

abbrev pub invariant-loop-near : goal.invariant-loop-near
invariant-loop-near l = Counted l.boxes l.number l.entries l.nearby l.near-index l.partners
