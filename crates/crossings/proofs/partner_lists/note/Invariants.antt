use Rattle.std.proofs.Common.{◌≡◌, All, List, length}
use Rattle.lam_geom.specs.declared.boxes.MaskBox.{MaskBox}
use Rattle.crossings.specs.{Entries.ArePartnersOf, PartnerLists.IsFound}
use Rattle.crossings.proofs.partner_lists.note.Given as goal

abbrev pub invariant-loop-own : goal.invariant-loop-own
invariant-loop-own l = record {
  counted : length l.known.items ≡ length l.fn.known.items;
  known : (boxes : List MaskBox) → All (IsFound boxes) l.found → ArePartnersOf boxes l.fn.known.items
      → ArePartnersOf boxes l.known.items;
}
