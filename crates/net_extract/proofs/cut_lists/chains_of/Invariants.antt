use Rattle.std.proofs.Common.{◌*◌, ◌≤◌, length}
use Rattle.net_extract.specs.CutLists.{AreChains, IsListedBefore}
use Rattle.net_extract.proofs.cut_lists.chains_of.Given as goal

abbrev pub invariant-loop-k : goal.invariant-loop-k
invariant-loop-k l = record {
  chains : AreChains (IsListedBefore l.over l.k) l.count l.chains;
  few : length l.chains.cuts.items ≤ 16 * l.k;
}
