use Rattle.std.proofs.Common.{◌∙◌, refl, length-set}
use Rattle.crossings.proofs.PartnerLists.{known_more}
use Rattle.crossings.proofs.partner_lists.note.Goals as goal

pub loop-own-preserved : goal.loop-own-preserved
loop-own-preserved c =
    let old = c.loop-own.known.items in
    record {
      counted = length-set old _ _ ∙ c.loop-own.invariant.counted;
      known = λ boxes found known.
          known_more boxes _ old _ (found c.loop-own.own-index _ c.loop-own-test.true) refl
          (c.loop-own.invariant.known boxes found known);
    }
