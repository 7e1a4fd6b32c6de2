use Rattle.std.proofs.Common.{◌≡◌, drop}
use Rattle.cons_graph.proofs.Tests.{leads_by}
use Rattle.cons_graph.proofs.walks.leads.Given as goal

abbrev pub invariant-loop-k : goal.invariant-loop-k
invariant-loop-k l = leads_by l.edges l.at (drop l.k-index l.walk) l.«end» ≡ leads_by l.edges l.start l.walk l.«end»
