use Rattle.std.proofs.Common.{All}
use Rattle.net_extract.specs.{declared.lists.Portion.Portion, Listing.{IsInOf, count_in}, Lists.{AreLists, IsNoted, IsPortion}}
use Rattle.net_extract.proofs.listing.put_lists.Given as goal

abbrev pub invariant-loop-portion : goal.invariant-loop-portion
invariant-loop-portion g l = record {
  lists : AreLists (IsInOf l.sides) (count_in l.sides) l.lists;
  each : All (λ (portion : Portion). All (IsNoted (count_in l.sides)) portion.lists.items
      × IsPortion (IsInOf l.sides) portion) l.portion-items;
}
