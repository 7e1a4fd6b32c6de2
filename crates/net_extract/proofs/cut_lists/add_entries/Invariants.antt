use Rattle.std.proofs.Common.{◌≡◌, ℕ, ◌+◌, length, take}
use Rattle.net_extract.specs.{declared.lists.Lists.Lists, CutLists.{AreChains, IsListedBefore}}
use Rattle.net_extract.proofs.Entering.{IsEntered}
use Rattle.net_extract.proofs.cut_lists.add_entries.Given as goal

abbrev pub invariant-loop-a : goal.invariant-loop-a
invariant-loop-a l = record {
  heads : length l.chains.heads.items ≡ length l.fn.chains.heads.items;
  long : length l.chains.cuts.items ≡ length l.fn.chains.cuts.items + l.a-index;
  chains : (over : Lists) (count : ℕ) → AreChains (IsListedBefore over l.cut) count l.fn.chains
      → AreChains (IsEntered over l.cut (take l.a-index l.pieces)) count l.chains;
}
