use Rattle.std.proofs.Common.{◌≡◌, ℕ, [], length}
use Rattle.design_nets.specs.Listing.{list_in}
use Rattle.design_nets.proofs.numbered_lists.empty_lists.Given as goal

abbrev pub invariant-loop : goal.invariant-loop
invariant-loop g l = record {
  counted : length l.lists.items ≡ l.counter;
  empty : (k : ℕ) → list_in l.lists.items k ≡ [];
}
