use Rattle.std.proofs.Common.{All}
use Rattle.net_extract.specs.{Listing.{IsInOf, count_in}, Lists.{IsNoted, IsPortion}}
use Rattle.net_extract.proofs.listing.add_group.Given as goal

abbrev pub invariant-loop-place : goal.invariant-loop-place
invariant-loop-place l = record {
  noted : All (IsNoted (count_in l.sides)) l.portion.lists.items;
  portion : IsPortion (IsInOf l.sides) l.portion;
}
