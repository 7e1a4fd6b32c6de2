use Rattle.net_extract.proofs.Entering.{IsDownIn}
use Rattle.net_extract.proofs.cut_lists.cuts_of.Given as goal

abbrev pub invariant-loop-at : goal.invariant-loop-at
invariant-loop-at l = IsDownIn l.lists.over l.count l.lists.chains l.a l.at l.found.items

abbrev pub decreases-loop-at : goal.decreases-loop-at
decreases-loop-at l = l.at
