use Rattle.std.proofs.Common.{All, Vec, Global}
use Rattle.crossings.specs.declared.partner_lists.BoxPartners.{BoxPartners}
use Rattle.crossings.specs.{Entries.ArePartnersOf, PartnerLists.IsFound}
use Rattle.crossings.proofs.partner_lists.partner_lists.Given as goal

abbrev pub invariant-loop-list : goal.invariant-loop-list
invariant-loop-list g l = record {
  known : ArePartnersOf l.boxes l.known.items;
  each : All (λ (found : Vec BoxPartners Global). All (IsFound l.boxes) found.items) l.list-items;
}
